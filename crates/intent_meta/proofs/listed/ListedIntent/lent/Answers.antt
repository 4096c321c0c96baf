use Rattle.std.proofs.Common.{ap, ◌∙◌}
use Rattle.intent_meta.specs.views.Seen.{record_in}
use Rattle.intent_meta.proofs.ListedLaws.{listed_is_lent}
use Rattle.intent_meta.proofs.listed.ListedIntent.lent.Goals as goal

pub returns : goal.returns
returns c = record {
  lent = λ key. listed_is_lent c.self.inside.head c.self.inside.value key c.args.self.now _ c.plain_value.result.now
      c.self.view_is c.self.invariant (c.over.ensures ∙ ap record_in c.as_slice.ensures)
      (λ body local ts is. c.plain_value.ensures body local ts (c.as_slice-2.ensures ∙ is));
}
