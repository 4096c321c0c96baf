-- What the map lends.
use Rattle.std.proofs.Common.{◌≡◌, refl, ap, ◌∙◌, subst}
use Rattle.std.specs.Prelude.{OnSome}
use Rattle.script_run.specs.Named.{keep, look_up}
use Rattle.script_run.proofs.NamedLaws.{named, look_up-lookup, keep-lent}
use Rattle.script_run.proofs.txns.Txns.find_mut.Goals as goal

pub returns : goal.returns
returns c =
    let found = c.get_mut.ensures.value in
    let name = c.args.name.now in (
      (
        refl,
        λ w. subst (λ table. OnSome c.get_mut.result (named (c.get_mut.follows.lender w).entries ≡ keep name w table)) c.self.view_is
            (keep-lent name w c.get_mut.result c.self.inside.kept.entries (c.get_mut.follows.lender w).entries found ((c.get_mut.follows.holds w).0)),
        ap (λ m. named m.entries) c.get_mut.follows.holds-at-none ∙ c.self.view_is,
      ),
      found ∙ look_up-lookup name c.self.inside.kept.entries ∙ ap (look_up name) c.self.view_is,
    )
