-- A read is answered as it is decided about the key at which the cursor stands.
use Rattle.std.proofs.Common.{◌≡◌, ap, ◌∙◌, subst}
use Rattle.mvcc_key.specs.views.Seen.{time_of}
use Rattle.intent_meta.specs.KeyHistory.{key_history}
use Rattle.read_rule.specs.views.Decided.{IsDecision, request_of}
use Rattle.mvcc_cursor.specs.Standing.{AtKey, at_place, sought_key, told}
use Rattle.mvcc_cursor.specs.WellFormed.{history_in}
use Rattle.mvcc_cursor.specs.views.Seen.{told_by}
use Rattle.mvcc_cursor.proofs.LongKeyLaws.{long_keys-cut}
use Rattle.mvcc_engine.specs.Step.{read_at}
use Rattle.mvcc_engine.proofs.ReadLaws.{decided-readable}
use Rattle.mvcc_engine.proofs.reading.get_from.Goals as goal

pub answer-answered-requires : goal.answer-answered-requires
answer-answered-requires g c = decided-readable (request_of c.outside-request.result) (told_by c.seek_exact.new.self) c.decide.result.0 c.decide.ensures.decision

pub returns : goal.returns
returns g c =
    let key = c.args.key.now in
    let h = history_in c.args.store.now in
    let stands : told_by c.seek_exact.new.self ≡ key_history (sought_key key) h = ap told (c.seek_exact.ensures.key ∙ ap (at_place (AtKey (sought_key key))) c.in_ok-cursor.ensures) in
    c.answer-answered.ensures h (time_of c.args.ts) (long_keys-cut h key c.requires.formed.valid)
    (subst (λ k. IsDecision (read_at (time_of c.args.ts)) k c.decide.result.0) stands
    (subst (λ r. IsDecision r (told_by c.seek_exact.new.self) c.decide.result.0) c.outside-request.ensures c.decide.ensures.decision))
