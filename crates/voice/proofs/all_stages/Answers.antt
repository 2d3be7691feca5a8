-- `voice::all_stages` meets its contract. Assumes nothing.
use Rattle.std.proofs.Common.{◌&&◌, rules, tests, refl, ◌∙◌}
use Rattle.std.specs.List.{list_all}
use Rattle.std.proofs.lemmas.Iterator.{YieldsList-from_slice}
use Rattle.std.proofs.lemmas.Iterator.Search.{all_from_yields_List}
use Rattle.std.proofs.lemmas.List.Recursion.{same_from_clauses}
use Rattle.envelope_inner.specs.declared.Envelope.{Envelope}
use Rattle.envelope_inner.specs.Envelope.{is_stage, all_stages}
use Rattle.voice.proofs.all_stages.Goals as goal

pub returns : goal.returns
unfolding all_stages
returns c =
    let xs = c.args.envelopes in
    all_from_yields_List (λ (e : Envelope). is_stage e.stage) _ _ c.all.result c.all.ensures.ran
    (YieldsList-from_slice xs cc) (λ x b q k. search (rules, tests))
    ∙ same_from_clauses (list_all (λ (e : Envelope). is_stage e.stage)) all_stages (λ e b. is_stage e.stage && b)
    refl (λ e es. refl) (λ e es. refl) xs
