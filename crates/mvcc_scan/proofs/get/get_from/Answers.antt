-- A look at the first bytes of a key is a read of the key.
use Rattle.std.proofs.Common.{◌≡◌, ap, ◌∙◌, subst}
use Rattle.intent_meta.specs.KeyHistory.{key_history}
use Rattle.read_rule.specs.views.Decided.{request_of}
use Rattle.mvcc_cursor.specs.Standing.{AtKey, at_place, sought_key, told}
use Rattle.mvcc_cursor.specs.WellFormed.{history_in}
use Rattle.mvcc_cursor.specs.views.Seen.{told_by}
use Rattle.mvcc_cursor.proofs.LongKeyLaws.{long_keys-cut}
use Rattle.mvcc_scan.specs.views.Kept.{IsLooked}
use Rattle.mvcc_scan.proofs.GetLaws.{looked-alike}
use Rattle.mvcc_scan.proofs.get.get_from.Goals as goal

pub returns : goal.returns
returns g c =
    let key = c.args.key.now in
    let h = history_in c.args.store.now in
    let r = request_of c.args.request.now in
    let stands : told_by c.seek_exact.new.self ≡ key_history (sought_key key) h = ap told (c.seek_exact.ensures.key ∙ ap (at_place (AtKey (sought_key key))) c.in_ok-cursor.ensures) in
    c.answer.ensures h r c.requires.good
    (looked-alike h r (sought_key key) key (long_keys-cut h key c.requires.formed.valid) c.in_ok-looked.looked
    (subst (λ k. IsLooked r k c.in_ok-looked.looked) stands c.in_ok-looked.ensures.looked))
