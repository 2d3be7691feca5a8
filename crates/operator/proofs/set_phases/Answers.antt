-- `operator::set_phases` meets its contract. Assumes nothing.
use Rattle.std.proofs.Common.{◌≡◌, ◌+◌, ◌-◌, ◌<◌, arith}
use Rattle.std.proofs.lemmas.List.{get_or-take, get_or-drop, length-take}
use Rattle.std.proofs.Common.{length-drop}
use lib.Ieee.{Float}
use Rattle.operator.proofs.Parts.{placing_first, placing_turn, near_at, set_length}
use Rattle.operator.proofs.set_phases.Goals as goal

pub loop-k-init : goal.loop-k-init
loop-k-init c = (placing_first _ _ _ _ _, c.requires.3)

pub modulate_near-requires : goal.modulate_near-requires
modulate_near-requires c =
    let within : c.loop-k.k < c.args.i + c.args.n - c.args.i = omega (arith, length-take {A = Float}) in
    rw (get_or-take, get_or-drop) (near_at _ _ c.requires.0 (omega arith))

pub loop-k-preserved : goal.loop-k-preserved
loop-k-preserved c =
    let v = c.loop-k.invariant in
    let within : c.loop-k.k < c.args.i + c.args.n - c.args.i = omega (arith, length-take {A = Float}) in (
      placing_turn _ _ _ _ _ c.loop-k.p _ _ _ v.0 (omega arith)
          c.wrapping_add_u32-p.ensures (rw (get_or-take, get_or-drop) at c.modulate_near.ensures),
      set_length c.loop-k.at _ _ v.1,
    )

pub returns : goal.returns
returns c =
    let v = c.loop-k.invariant in
    let all : c.loop-k.k ≡ c.args.n = omega (arith, length-take {A = Float}, length-drop {A = Float}) in
    ((rw all at v.0.before), v.1)
