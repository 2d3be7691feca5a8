-- Tests of the code, in the definitions' words. Assumes nothing.
use mathlib.Core.Path.{◌≡◌, sym, ◌∙◌}
use mathlib.Core.Bool.{Bool, true, false}

-- a refusal's test s, as a call gives it in u, by what a branch on it says of the call's result
module _ {u s : Bool} (e : u ≡ s) where
  pub refused_by : u ≡ false → s ≡ false
  refused_by h = sym e ∙ h

  pub accepted_by : u ≡ true → s ≡ true
  accepted_by h = sym e ∙ h
