use Rattle.std.proofs.Common.{List, ℕ, subst, sym, ◌∙◌}
use Rattle.model_text.specs.Spelling.{Spells}
use Rattle.model_text.proofs.PrintedTextLemmas.{printed_spells}
use Rattle.model_text.proofs.model_print.print_model.Goals as goal

pub returns-clause-spells : goal.returns-clause-spells
returns-clause-spells c =
    let m = c.args.model.now in
    subst (λ (text : List ℕ). Spells text m) (sym (c.into_list.ensures ∙ c.in_ok-text.ensures.text)) (printed_spells m c.in_ok-text.ensures.model)
