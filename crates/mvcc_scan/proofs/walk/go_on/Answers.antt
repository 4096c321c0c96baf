-- Beside a key of the walk stands the next.
use Rattle.std.proofs.Common.{sym, ap, ◌∙◌, cond}
use Rattle.mvcc_cursor.specs.Standing.{next_place, previous_place, stored}
use Rattle.mvcc_cursor.specs.views.Seen.{seen}
use Rattle.mvcc_scan.proofs.CursorLaws.{goes_on}
use Rattle.mvcc_scan.proofs.walk.go_on.Goals as goal

pub returns-then-reverse-clause-next : goal.returns-then-reverse-clause-next
returns-then-reverse-clause-next g c = λ b key keys same way is.
    let s = seen c.args.cursor.now in
    goes_on s.store way.formed b s.at (seen c.prev_key.new.self) (ap (λ x. x.store) c.prev_key.ensures.key) way.on key keys is
    (ap (λ x. x.at) c.prev_key.ensures.key ∙ ap (λ d. cond d (previous_place s.at (stored s)) (next_place s.at (stored s))) (sym (same ∙ c.if-reverse.true)))

pub returns-else-reverse-clause-next : goal.returns-else-reverse-clause-next
returns-else-reverse-clause-next g c = λ b key keys same way is.
    let s = seen c.args.cursor.now in
    goes_on s.store way.formed b s.at (seen c.next_key.new.self) (ap (λ x. x.store) c.next_key.ensures.key) way.on key keys is
    (ap (λ x. x.at) c.next_key.ensures.key ∙ ap (λ d. cond d (previous_place s.at (stored s)) (next_place s.at (stored s))) (sym (same ∙ c.if-reverse.false)))
