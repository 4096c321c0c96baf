-- The cursor passes the keys that have no intent of the transaction.
use Rattle.std.proofs.Common.{refl, sym, ◌∙◌}
use Rattle.mvcc_cursor.specs.views.Seen.{seen}
use Rattle.intent_resolve.specs.views.Seen.{update_of}
use Rattle.intent_resolve.proofs.LookLaws.{from_not, from_not_true}
use Rattle.intent_resolve.proofs.WalkLaws.{coming-on, coming-found, coming-ends}
use Rattle.intent_resolve.proofs.walk.come_to_own.Goals as goal

pub loop-cursor-init : goal.loop-cursor-init
loop-cursor-init g c = record { over = refl; stands = c.requires.stands; left = refl }

pub loop-cursor-smaller : goal.loop-cursor-smaller
loop-cursor-smaller g c =
    (coming-on (update_of c.args.update.now) c.args.end.now (seen c.args.cursor.now) (seen c.loop-cursor.cursor) c.requires.formed c.loop-cursor.invariant (seen c.next_key.new.self)
    (sym c.is_before.ensures ∙ c.loop-cursor-test.true) (from_not_true _ _ c.is_others.ensures c.if-not-is_others.false) c.next_key.ensures.key).less

pub loop-cursor-preserved : goal.loop-cursor-preserved
loop-cursor-preserved g c =
    (coming-on (update_of c.args.update.now) c.args.end.now (seen c.args.cursor.now) (seen c.loop-cursor.cursor) c.requires.formed c.loop-cursor.invariant (seen c.next_key.new.self)
    (sym c.is_before.ensures ∙ c.loop-cursor-test.true) (from_not_true _ _ c.is_others.ensures c.if-not-is_others.false) c.next_key.ensures.key).coming

pub returns : goal.returns
returns g c =
    coming-ends (update_of c.args.update.now) c.args.end.now (seen c.args.cursor.now) (seen c.loop-cursor.cursor) c.requires.formed c.loop-cursor.invariant (sym c.is_before.ensures ∙ c.loop-cursor-test.false)

pub returns-then-not-is_others : goal.returns-then-not-is_others
returns-then-not-is_others g c =
    coming-found (update_of c.args.update.now) c.args.end.now (seen c.args.cursor.now) (seen c.loop-cursor.cursor) c.requires.formed c.loop-cursor.invariant
    (sym c.is_before.ensures ∙ c.loop-cursor-test.true) (from_not _ _ c.is_others.ensures c.if-not-is_others.true)
