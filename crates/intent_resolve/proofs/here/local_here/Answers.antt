-- The first version is the intent's provisional one, and keeps its local timestamp.
use Rattle.std.specs.Prelude.{is_ok}
use Rattle.std.proofs.Common.{ap, ◌∙◌, arith}
use Rattle.mvcc_value.specs.Encoding.{Value}
use Rattle.mvcc_value.specs.views.Seen.{seen_value}
use Rattle.intent_meta.specs.StoredPairs.{provisional}
use Rattle.mvcc_cursor.specs.Standing.{told}
use Rattle.mvcc_cursor.specs.WellFormed.{history_in}
use Rattle.mvcc_cursor.specs.views.Lent.{seen_version, lent_version}
use Rattle.mvcc_cursor.specs.views.Seen.{seen}
use Rattle.intent_resolve.proofs.LookLaws.{first-version, whole-here, local-read, same_value, some_there, mapped_some, mapped_is, begin-within}
use Rattle.intent_resolve.proofs.PlanLaws.{is_at, intent-there}
use Rattle.intent_resolve.proofs.here.local_here.Goals as goal

pub unwrap-version-requires : goal.unwrap-version-requires
unwrap-version-requires g c =
    let s = seen c.args.cursor.now in
    let there = some_there (told s).intent c.requires.there in
    let place = is_at s there.0 there.1 in
    mapped_some seen_version c.next_version.result (lent_version (provisional there.0))
    (c.next_version.ensures.version ∙ first-version s place.key there.0 c.requires.fresh place.at c.requires.formed (intent-there s place.key there.0 place.at there.1))

pub read-requires : goal.read-requires
read-requires g c =
    let s = seen c.args.cursor.now in
    let there = some_there (told s).intent c.requires.there in
    let i = there.0 in
    let place = is_at s i there.1 in
    let was = intent-there s place.key i place.at there.1 in
    let same = mapped_is seen_version c.next_version.result c.unwrap-version.result (lent_version (provisional i)) c.unwrap-version.ensures
    (c.next_version.ensures.version ∙ first-version s place.key i c.requires.fresh place.at c.requires.formed was) in
    ap is_ok (local-read i (seen_version c.unwrap-version.result) (whole-here (history_in s.store) place.key i (c.requires.formed).valid was) same)

pub returns-clause-local : goal.returns-clause-local
returns-clause-local g c = λ key i at was.
    let s = seen c.args.cursor.now in
    let same = mapped_is seen_version c.next_version.result c.unwrap-version.result (lent_version (provisional i)) c.unwrap-version.ensures
    (c.next_version.ensures.version ∙ first-version s key i c.requires.fresh at c.requires.formed was) in
    ap (λ (v : Value). v.local) (same_value _ (seen_value c.read.result) _ c.read.ensures (local-read i (seen_version c.unwrap-version.result) (whole-here (history_in s.store) key i (c.requires.formed).valid was) same))

pub returns-clause-looks : goal.returns-clause-looks
returns-clause-looks g c = λ key at passed_is.
    let gone = c.next_version.follows.holds-at-none in
    let more = gone.looks in
    let within = gone.within key at in
    let first = begin-within c.args.cursor.now.given c.args.cursor.now.places.store.now in
    omega (arith, more, within, first, passed_is)
