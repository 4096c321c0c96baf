-- The store with one version more.
use Rattle.std.proofs.Common.{◌+◌, ap, ◌∙◌}
use Rattle.mvcc_key.specs.views.Building.{with_point}
use Rattle.mvcc_cursor.specs.views.Many.{key, set_version}
use Rattle.mvcc_cursor.proofs.ManyLaws.{holds-more}
use Rattle.mvcc_cursor.proofs.many.add.Goals as goal

pub returns : goal.returns
returns c = holds-more c.args.newest c.args.store.now c.apply.new.self c.into_batch.result c.requires.range c.requires.holds
    (c.into_batch.ensures.same ∙ c.in_ok-put.ensures ∙ ap (λ b. with_point b (set_version (key 99) (c.args.newest + 1))) c.new-batch.ensures)
    c.in_ok-apply.ensures.shown c.in_ok-apply.ensures.fragments
