use Rattle.std.proofs.Common.{◌≡◌, ℕ, List, [], ◌∷◌, ◌++◌, None, cond, sym, ap, ◌∙◌}
use Rattle.std.specs.Prelude.{map}
use Rattle.mvcc_key.specs.History.{Entry, without_ignored}
use Rattle.mvcc_key.specs.views.Seen.{range_of}
use Rattle.intent_meta.specs.Entries.{entries_with, some_entries}
use Rattle.intent_meta.specs.Rules.{AreRecordEntries}
use Rattle.intent_meta.specs.views.Seen.{record_in, is_ignored_by}
use Rattle.intent_meta.proofs.FieldLaws.{IsRecordOf-record_in}
use Rattle.intent_meta.proofs.EntryRuleLaws.{IfSome-some_entries, AreRecordEntries-left}
use Rattle.intent_meta.proofs.WalkLaws.{kept-provisional}
use Rattle.intent_meta.proofs.intent_ref.IntentRef.without_ignored.Goals as goal

pub returns : goal.returns
returns c =
    let r = record_in c.args.self.now.bytes.now in
    let last : ℕ → List (Entry (List ℕ)) = λ n. cond (is_ignored_by c.args.ignored.now n) [] (record { sequence = n; value = c.args.provisional.now } ∷ []) in
    let kept : c.in_ok-left.left ≡ without_ignored (map range_of c.args.ignored.now) r.history = c.in_ok-left.ensures r.history c.history.ensures in
    let pushed : c.keep.new.left ≡ c.in_ok-left.left ++ last c.sequence-sequence.result = c.in_ok-keep.ensures in
    let left : c.some_entries.result ≡ some_entries (without_ignored (map range_of c.args.ignored.now) (entries_with r c.args.provisional.now)) =
    c.some_entries.ensures
    ∙ ap some_entries (
    pushed ∙ ap (λ (n : ℕ). c.in_ok-left.left ++ last n) c.sequence-sequence.ensures ∙ ap (λ (es : List (Entry (List ℕ))). es ++ last r.sequence) kept
    ∙ sym (kept-provisional c.args.ignored.now r.history (record { sequence = r.sequence; value = c.args.provisional.now }))
    ) in
    let of = IsRecordOf-record_in c.args.self.now.bytes.now c.args.self.now.are_bytes c.args.self.now.are_read in
    record {
      entries = left;
      rules = λ limit own. rw left (IfSome-some_entries (AreRecordEntries None limit) (without_ignored (map range_of c.args.ignored.now) (entries_with r c.args.provisional.now)) (AreRecordEntries-left (map range_of c.args.ignored.now) r c.args.provisional.now limit of.is_record own));
    }
