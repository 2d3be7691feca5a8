-- What the derived `Default`s give: a struct of zeros. Assumes nothing.
use mathlib.Core.Path.{◌≡◌, sym, ◌∙◌, ap₂}
use mathlib.Core.List.{List}
use Prim.Native.Nat.{ℕ}
use native.Mathlib.Omega.{arith}
use lib.ListN.{get_or, replicate}
use lib.Seq.{ext_get_or}
use Rattle.std.specs.Array.{AllOfLen}
use Rattle.std.proofs.lemmas.List.{length-replicate, get_or-replicate}
use Rattle.patch.specs.declared.Envelope.{Envelope}
use Rattle.patch.specs.declared.KeyboardScaling.{KeyboardScaling}
use Rattle.patch.specs.declared.ModulationParameters.{ModulationParameters}
use Rattle.patch.specs.declared.Operator.{Operator}
use Rattle.patch.specs.declared.Patch.{Patch}
use Rattle.patch.specs.Form.{envelope_with, scaling_with, operator_with, modulations_with, name_with, patch_with}
use Rattle.patch.specs.Form.{scaling_number, lfo_number, zero_patch}

-- an array of equal elements
copies : {A : Type 0} (d : A) (n : ℕ) (xs : List A) (P : A → Type 0) → ((x : A) → P x → x ≡ d) → AllOfLen P xs n
    → xs ≡ replicate n d
copies d n xs P same all =
    ext_get_or d xs (replicate n d) (all.long ∙ sym (length-replicate n d)) (λ k h.
    same (get_or xs k d) (all.at k d (omega arith)) ∙ sym (get_or-replicate n k d d (omega arith)))

abbrev Zeros : List ℕ → ℕ → Type 0
Zeros xs n = AllOfLen (λ (x : ℕ). x ≡ 0) xs n

zeros : (n : ℕ) (xs : List ℕ) → Zeros xs n → xs ≡ replicate n 0
zeros n xs all = copies 0 n xs (λ (x : ℕ). x ≡ 0) (λ x e. e) all

abbrev ZeroEnvelope : Envelope → Type 0
ZeroEnvelope e = Zeros e.rate 4 × Zeros e.level 4

zero_envelope : (e : Envelope) → ZeroEnvelope e → e ≡ envelope_with (λ n. 0)
unfolding envelope_with
zero_envelope e (rates, levels) =
    ap₂ (λ (r l : List ℕ). record { rate = r; level = l }) (zeros 4 e.rate rates) (zeros 4 e.level levels)

abbrev ZeroScaling : KeyboardScaling → Type 0
ZeroScaling k =
    (k.left_depth ≡ 0)
    × ((k.right_depth ≡ 0) × ((k.left_curve ≡ 0) × ((k.right_curve ≡ 0) × (k.break_point ≡ 0))))

zero_scaling : (k : KeyboardScaling) → ZeroScaling k → scaling_with (scaling_number k) ≡ scaling_with (λ n. 0)
unfolding scaling_with scaling_number
zero_scaling k (a, (b, (c, (d, e)))) = rw (a, b, c, d, e)

abbrev ZeroModulations : ModulationParameters → Type 0
ZeroModulations m =
    (m.delay ≡ 0)
    × ((m.rate ≡ 0)
    × ((m.pitch_mod_depth ≡ 0)
    × ((m.amp_mod_depth ≡ 0)
    × ((m.reset_phase ≡ 0) × ((m.waveform ≡ 0) × (m.pitch_mod_sensitivity ≡ 0))))))

zero_modulations : (m : ModulationParameters) → ZeroModulations m
    → modulations_with (lfo_number m) ≡ modulations_with (λ n. 0)
unfolding modulations_with lfo_number
zero_modulations m (a, (b, (c, (d, (e, (f, g)))))) = rw (a, b, c, d, e, f, g)

abbrev ZeroOperator : Operator → Type 0
ZeroOperator o =
    ZeroEnvelope o.envelope
    × (ZeroScaling o.keyboard_scaling
    × ((o.rate_scaling ≡ 0)
    × ((o.amp_mod_sensitivity ≡ 0)
    × ((o.velocity_sensitivity ≡ 0)
    × ((o.level ≡ 0) × ((o.mode ≡ 0) × ((o.coarse ≡ 0) × ((o.fine ≡ 0) × (o.detune ≡ 0)))))))))

pub zero_operator : (o : Operator) → ZeroOperator o → o ≡ operator_with (λ n. 0)
unfolding operator_with scaling_with scaling_number
zero_operator o (envelope, (scaling, (a, (b, (c, (d, (e, (f, (g, h))))))))) =
    let stages = zero_envelope o.envelope envelope in
    let depths = zero_scaling o.keyboard_scaling scaling in
    let parts : record {
      envelope = o.envelope;
      keyboard_scaling = o.keyboard_scaling;
      rate_scaling = o.rate_scaling;
      amp_mod_sensitivity = o.amp_mod_sensitivity;
      velocity_sensitivity = o.velocity_sensitivity;
      level = o.level;
      mode = o.mode;
      coarse = o.coarse;
      fine = o.fine;
      detune = o.detune;
    } ≡ operator_with (λ n. 0) = rw (stages, depths, a, b, c, d, e, f, g, h) in
    parts

abbrev ZeroPatch : Patch → Type 0
ZeroPatch p =
    AllOfLen ZeroOperator p.op 6
    × (ZeroEnvelope p.pitch_envelope
    × ((p.algorithm ≡ 0)
    × ((p.feedback ≡ 0)
    × ((p.reset_phase ≡ 0)
    × (ZeroModulations p.modulations
    × ((p.transpose ≡ 0) × (Zeros p.name 10 × (p.active_operators ≡ 0))))))))

pub patch_of_zeros : (p : Patch) → ZeroPatch p → p ≡ zero_patch
unfolding zero_patch patch_with modulations_with lfo_number name_with
patch_of_zeros p (ops, (pitch, (a, (b, (c, (lfo, (d, (letters, e)))))))) =
    let os : p.op ≡ replicate 6 (operator_with (λ n. 0)) =
    copies (operator_with (λ n. 0)) 6 p.op ZeroOperator zero_operator ops in
    let stages = zero_envelope p.pitch_envelope pitch in
    let modulations = zero_modulations p.modulations lfo in
    let name = zeros 10 p.name letters in
    let parts : record {
      op = p.op;
      pitch_envelope = p.pitch_envelope;
      algorithm = p.algorithm;
      feedback = p.feedback;
      reset_phase = p.reset_phase;
      modulations = p.modulations;
      transpose = p.transpose;
      name = p.name;
      active_operators = p.active_operators;
    } ≡ zero_patch = rw (os, stages, a, b, c, modulations, d, name, e) in
    parts
