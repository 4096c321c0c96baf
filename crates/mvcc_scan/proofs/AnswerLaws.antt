-- What a walk answers.
use Rattle.std.specs.Prelude.{Bool, true, false, not, List, [], ◌∷◌, Option, Some, None, Result, Ok, Err, IsTrue, ◌↔◌}
use Rattle.std.proofs.Common.{◌≡◌, refl, sym, ap, ◌∙◌}
use Rattle.mvcc_key.specs.Lists.{is_empty}
use Rattle.mvcc_key.specs.Steps.{◌>>=◌, unless_fault}
use Rattle.mvcc_key.specs.Order.{Timestamp, Key}
use Rattle.mvcc_key.specs.Spans.{is_bad_span}
use Rattle.mvcc_key.specs.History.{History}
use Rattle.mvcc_key.specs.Refusal.{IntentSeen, Refusal, BadOptions, BadSpan, TooOld, Conflict}
use Rattle.read_rule.specs.Read.{ReadRequest, are_bad_options}
use Rattle.read_rule.specs.Scan.{ScanLimits, ScanAnswer, ascending, unless_collected, answer_of, walk, walked_keys, nothing_taken, scan}

-- ---- the options and the span

-- what a scan answers, past its options and its span
abbrev walked : History → ReadRequest → Key → Key → ScanLimits → Result ScanAnswer Refusal
walked h r start end l = answer_of start end l.reverse (walk h r l (walked_keys h start end l.reverse) nothing_taken)

pub scan-bad_options : (h : History) (r : ReadRequest) (start end : Key) (l : ScanLimits) → are_bad_options r ≡ true → scan h r start end l ≡ Err BadOptions
unfolding scan
scan-bad_options h r start end l bad =
    ap (λ b. unless_fault b BadOptions r >>= (λ options. unless_fault (is_bad_span start end) BadSpan start >>= (λ span. walked h r start end l))) bad

pub scan-bad_span : (h : History) (r : ReadRequest) (start end : Key) (l : ScanLimits) → are_bad_options r ≡ false → is_bad_span start end ≡ true → scan h r start end l ≡ Err BadSpan
unfolding scan
scan-bad_span h r start end l good bad =
    ap (λ b. unless_fault b BadOptions r >>= (λ options. unless_fault (is_bad_span start end) BadSpan start >>= (λ span. walked h r start end l))) good
    ∙ ap (λ b. unless_fault b BadSpan start >>= (λ span. walked h r start end l)) bad

pub scan-walked : (h : History) (r : ReadRequest) (start end : Key) (l : ScanLimits) → are_bad_options r ≡ false → is_bad_span start end ≡ false
    → scan h r start end l ≡ answer_of start end l.reverse (walk h r l (walked_keys h start end l.reverse) nothing_taken)
unfolding scan
scan-walked h r start end l good span =
    ap (λ b. unless_fault b BadOptions r >>= (λ options. unless_fault (is_bad_span start end) BadSpan start >>= (λ span. walked h r start end l))) good
    ∙ ap (λ b. unless_fault b BadSpan start >>= (λ span. walked h r start end l)) span

-- ---- what was collected

-- a timestamp that was too recent refuses
pub collected-too_old : (o : Option Timestamp) (ts : Timestamp) (conflicts : List IntentSeen) (a : ScanAnswer) → Some ts ≡ o → unless_collected o conflicts a ≡ Err (TooOld ts)
collected-too_old o ts conflicts a is = ap (λ p. unless_collected p conflicts a) (sym is)

-- intents in the way refuse
pub collected-conflicts : (o : Option Timestamp) (conflicts : List IntentSeen) (a : ScanAnswer) → None ≡ o → not (is_empty conflicts) ≡ true → unless_collected o conflicts a ≡ Err (Conflict (ascending conflicts))
collected-conflicts o conflicts a none some =
    ap (λ p. unless_collected p conflicts a) (sym none) ∙ ap (λ b. unless_fault b (Conflict (ascending conflicts)) a) some

-- without either the answer stands
pub collected-nothing : (o : Option Timestamp) (conflicts : List IntentSeen) (a : ScanAnswer) → None ≡ o → not (is_empty conflicts) ≡ false → unless_collected o conflicts a ≡ Ok a
collected-nothing o conflicts a none some =
    ap (λ p. unless_collected p conflicts a) (sym none) ∙ ap (λ b. unless_fault b (Conflict (ascending conflicts)) a) some

-- a test for emptiness
pub tests-empty : {X : Type 0} (b : Bool) (xs : List X) → (IsTrue b ↔ (xs ≡ [])) → b ≡ is_empty xs
tests-empty true [] e = refl
tests-empty true (x ∷ xs) e = let none : x ∷ xs ≡ [] = e.0 cc in absurd cc
tests-empty false [] e = let yes : IsTrue false = e.1 refl in absurd cc
tests-empty false (x ∷ xs) e = refl
