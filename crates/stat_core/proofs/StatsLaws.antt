-- What the methods of running statistics make of them is what the definitions say.
use Rattle.std.specs.Prelude.{◌≡◌, ℕ, ◌≤◌, ℤ, pos, ◌+ℤ◌, ◌-ℤ◌, ◌≤ℤ◌, List, [], ◌∷◌, Some, None}
use Rattle.std.proofs.Common.{refl, sym, ◌∙◌, ap, subst, arith}
use Rattle.std.proofs.lemmas.Int.{ints}
use Rattle.mvcc_key.specs.Field.{Field, KeyCount, KeyBytes, ValCount, ValBytes, LiveCount, LiveBytes, IntentCount, IntentBytes, IntentAge, GcBytesAge, RangeKeyCount, RangeKeyBytes, RangeValCount, RangeValBytes}
use Rattle.stat_core.specs.ComputeStats.{age, field, overflowing, no_sums}
use Rattle.stat_core.specs.views.Counters.{number_at, moved_by, changed_number, moved_number, AreCounted, IsFirstAbove}
use Rattle.stat_core.specs.Running.{Running, sums_of}
use Rattle.stat_core.specs.views.Seen.{number}
use Rattle.stat_core.specs.Settling.{gain, NoDebt, raised_number, lowered_number, aged_number, settled_number, whole_sums, with_numbers, raised, lowered, aged_to, settled_stats}
use Rattle.stat_core.specs.declared.counters.Sign.{Sign}
use Rattle.stat_core.specs.declared.counters.Sign.TheVariants.{Plus, Minus}
use Rattle.stat_core.specs.declared.group.Group.{Group}
use Rattle.stat_core.proofs.BoundsLaws.{no_overflow-from}
use Rattle.stat_core.proofs.SettlingLaws.{whole_sums-same}
use Rattle.stat_core.proofs.CounterLaws.{field-sums_of, counted-sums, counted-fits, overflowing-first}

-- of the same numbers none is negative
pub NoDebt-same : (m n : Field → ℤ) → ((f : Field) → m f ≡ n f) → NoDebt n → NoDebt m
NoDebt-same m n same none = λ f. subst (λ z. pos 0 ≤ℤ z) (sym (same f)) (none f)

-- nothing overflows no bound
pub no_sums-fits : (bound : ℕ) → overflowing bound no_sums ≡ None
no_sums-fits bound = no_overflow-from bound no_sums at
  where
    at : (f : Field) → field f no_sums ≤ bound
    at KeyCount = omega arith
    at KeyBytes = omega arith
    at ValCount = omega arith
    at ValBytes = omega arith
    at LiveCount = omega arith
    at LiveBytes = omega arith
    at IntentCount = omega arith
    at IntentBytes = omega arith
    at IntentAge = omega arith
    at GcBytesAge = omega arith
    at RangeKeyCount = omega arith
    at RangeKeyBytes = omega arith
    at RangeValCount = omega arith
    at RangeValBytes = omega arith

-- the numbers of the counters are those of the statistics that they are
pub changed-moved : (counts : List ℕ) (last bound : ℕ) (s : Running) (gained numbers : List ℤ) (sign : Sign)
    → record { sums = sums_of counts; last = last; count_max = bound } ≡ s
    → (f : Field) → changed_number counts gained numbers sign f ≡ moved_number s gained numbers sign f
changed-moved counts last bound s gained numbers sign view f =
    ap (λ n. moved_by sign (pos n +ℤ number_at gained f) (number_at numbers f)) (sym (field-sums_of counts f) ∙ ap (λ r. field f r.sums) view)

-- so the counters that were changed are the statistics that the numbers are
pub changed-running : (counts next : List ℕ) (last bound now : ℕ) (s : Running) (gained numbers : List ℤ) (sign : Sign)
    → record { sums = sums_of counts; last = last; count_max = bound } ≡ s
    → AreCounted bound (changed_number counts gained numbers sign) next
    → record { sums = sums_of next; last = now; count_max = bound } ≡ with_numbers s now (moved_number s gained numbers sign)
changed-running counts next last bound now s gained numbers sign view counted =
    let sums : sums_of next ≡ whole_sums (moved_number s gained numbers sign) =
    counted-sums bound (changed_number counts gained numbers sign) next counted
    ∙ whole_sums-same (changed_number counts gained numbers sign) (moved_number s gained numbers sign) (changed-moved counts last bound s gained numbers sign view) in
    λ i. record { sums = sums i; last = now; count_max = (view i).count_max }

-- none of which overflows
pub changed-fits : (counts next : List ℕ) (last bound now : ℕ) (s : Running) (gained numbers : List ℤ) (sign : Sign)
    → record { sums = sums_of counts; last = last; count_max = bound } ≡ s
    → AreCounted bound (changed_number counts gained numbers sign) next
    → None ≡ overflowing s.count_max (whole_sums (moved_number s gained numbers sign))
changed-fits counts next last bound now s gained numbers sign view counted =
    sym (counted-fits bound (changed_number counts gained numbers sign) next counted)
    ∙ (λ i. let r = changed-running counts next last bound now s gained numbers sign view counted i in overflowing r.count_max r.sums)

-- and a field that is the first above the bound is the one that overflows
pub changed-overflows : (counts : List ℕ) (last bound : ℕ) (s : Running) (gained numbers : List ℤ) (sign : Sign) (f : Field)
    → record { sums = sums_of counts; last = last; count_max = bound } ≡ s
    → IsFirstAbove bound (changed_number counts gained numbers sign) f
    → Some f ≡ overflowing s.count_max (whole_sums (moved_number s gained numbers sign))
changed-overflows counts last bound s gained numbers sign f view first =
    sym (overflowing-first bound (changed_number counts gained numbers sign) f first)
    ∙ (λ i. overflowing (view i).count_max (whole_sums-same (changed_number counts gained numbers sign) (moved_number s gained numbers sign) (changed-moved counts last bound s gained numbers sign view) i))

none_more : (c z n : ℤ) → z ≡ pos 0 → (c +ℤ z) +ℤ n ≡ c +ℤ n
none_more c z n e = omega (arith, ints)

none_less : (c z n : ℤ) → z ≡ pos 0 → (c +ℤ z) -ℤ n ≡ c -ℤ n
none_less c z n e = omega (arith, ints)

-- with no gain and a group's numbers more, the numbers are raised ones
pub moved-raised : (s : Running) (gained numbers : List ℤ) (group : Group) → ((f : Field) → number_at gained f ≡ pos 0) → ((f : Field) → number_at numbers f ≡ number f group)
    → (f : Field) → moved_number s gained numbers Plus f ≡ raised_number s group f
moved-raised s gained numbers group none same f =
    none_more (pos (field f s.sums)) (number_at gained f) (number_at numbers f) (none f) ∙ ap (λ n. pos (field f s.sums) +ℤ n) (same f)

-- and less, lowered ones
pub moved-lowered : (s : Running) (gained numbers : List ℤ) (group : Group) → ((f : Field) → number_at gained f ≡ pos 0) → ((f : Field) → number_at numbers f ≡ number f group)
    → (f : Field) → moved_number s gained numbers Minus f ≡ lowered_number s group f
moved-lowered s gained numbers group none same f =
    none_less (pos (field f s.sums)) (number_at gained f) (number_at numbers f) (none f) ∙ ap (λ n. pos (field f s.sums) -ℤ n) (same f)

-- with the gain of a moment and a group's numbers more, settled_stats ones
pub moved-settled : (s : Running) (gained numbers : List ℤ) (group : Group) (now : ℕ) → ((f : Field) → number_at gained f ≡ gain s.sums (age now s.last) f)
    → ((f : Field) → number_at numbers f ≡ number f group) → (f : Field) → moved_number s gained numbers Plus f ≡ settled_number s group now f
moved-settled s gained numbers group now more same f = λ i. (pos (field f s.sums) +ℤ more f i) +ℤ same f i

-- with nothing, aged ones
pub settled-aged : (s : Running) (group : Group) (now : ℕ) → ((f : Field) → number f group ≡ pos 0) → (f : Field) → settled_number s group now f ≡ aged_number s now f
settled-aged s group now none f = by (aged_number s now f) (number f group) (none f)
  where
    by : (a n : ℤ) → n ≡ pos 0 → a +ℤ n ≡ a
    by a n e = omega (arith, ints)

-- the same numbers are the same running statistics
pub with_numbers-same : (s : Running) (now : ℕ) (m n : Field → ℤ) → ((f : Field) → m f ≡ n f) → with_numbers s now m ≡ with_numbers s now n
with_numbers-same s now m n same = λ i. record { sums = whole_sums-same m n same i; last = now; count_max = s.count_max }

pub raised-is : (s : Running) (m : Field → ℤ) (group : Group) → ((f : Field) → m f ≡ raised_number s group f) → with_numbers s s.last m ≡ raised s group
unfolding raised
raised-is s m group same = with_numbers-same s s.last m (raised_number s group) same

pub lowered-is : (s : Running) (m : Field → ℤ) (group : Group) → ((f : Field) → m f ≡ lowered_number s group f) → with_numbers s s.last m ≡ lowered s group
unfolding lowered
lowered-is s m group same = with_numbers-same s s.last m (lowered_number s group) same

pub settled-is : (s : Running) (m : Field → ℤ) (group : Group) (now : ℕ) → ((f : Field) → m f ≡ settled_number s group now f) → with_numbers s now m ≡ settled_stats s group now
unfolding settled_stats
settled-is s m group now same = with_numbers-same s now m (settled_number s group now) same

pub aged_to-is : (s : Running) (group : Group) (now : ℕ) → ((f : Field) → number f group ≡ pos 0) → settled_stats s group now ≡ aged_to s now
unfolding settled_stats aged_to
aged_to-is s group now none = with_numbers-same s now (settled_number s group now) (aged_number s now) (settled-aged s group now none)

-- no gain
abbrev pub nothing : List ℤ
nothing =
    pos 0 ∷ pos 0 ∷ pos 0 ∷ pos 0 ∷ pos 0 ∷ pos 0 ∷ pos 0 ∷ pos 0 ∷ pos 0 ∷ pos 0 ∷ pos 0 ∷ pos 0 ∷ pos 0 ∷ pos 0 ∷ []

pub nothing-at : (f : Field) → number_at nothing f ≡ pos 0
nothing-at KeyCount = refl
nothing-at KeyBytes = refl
nothing-at ValCount = refl
nothing-at ValBytes = refl
nothing-at LiveCount = refl
nothing-at LiveBytes = refl
nothing-at IntentCount = refl
nothing-at IntentBytes = refl
nothing-at IntentAge = refl
nothing-at GcBytesAge = refl
nothing-at RangeKeyCount = refl
nothing-at RangeKeyBytes = refl
nothing-at RangeValCount = refl
nothing-at RangeValBytes = refl

-- what `add` makes of the statistics
pub add-is : (s : Running) (last : ℕ) (numbers : List ℤ) (group : Group) → last ≡ s.last → ((f : Field) → number_at numbers f ≡ number f group)
    → with_numbers s last (moved_number s nothing numbers Plus) ≡ raised s group
add-is s last numbers group here same =
    (λ i. with_numbers s (here i) (moved_number s nothing numbers Plus))
    ∙ raised-is s (moved_number s nothing numbers Plus) group (moved-raised s nothing numbers group nothing-at same)

-- and `sub`
pub sub-is : (s : Running) (last : ℕ) (numbers : List ℤ) (group : Group) → last ≡ s.last → ((f : Field) → number_at numbers f ≡ number f group)
    → with_numbers s last (moved_number s nothing numbers Minus) ≡ lowered s group
sub-is s last numbers group here same =
    (λ i. with_numbers s (here i) (moved_number s nothing numbers Minus))
    ∙ lowered-is s (moved_number s nothing numbers Minus) group (moved-lowered s nothing numbers group nothing-at same)

-- and `settle`
pub settle-is : (s r : Running) (gained numbers : List ℤ) (group : Group) (now : ℕ) → r ≡ s → ((f : Field) → number_at gained f ≡ gain r.sums (age now r.last) f)
    → ((f : Field) → number_at numbers f ≡ number f group) → with_numbers s now (moved_number s gained numbers Plus) ≡ settled_stats s group now
settle-is s r gained numbers group now view more same =
    settled-is s (moved_number s gained numbers Plus) group now
    (moved-settled s gained numbers group now (λ f. more f ∙ ap (λ t. gain t.sums (age now t.last) f) view) same)
