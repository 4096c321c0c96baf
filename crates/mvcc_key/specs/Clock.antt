-- What holds of the timestamps after and before one another, and of the order of names.
use Rattle.std.specs.Prelude.{◌≡◌, true, Some}
use Rattle.std.specs.declared.cmp.Ordering.TheVariants.{Equal}
use Rattle.std.specs.Cmp.{IsTotalOrder}
use Rattle.mvcc_key.specs.Order.{Timestamp, is_in_range, next_time, previous_time, time_cmp, Name, name_cmp}

-- the timestamp after t is in range, and the one before it is t
abbrev pub NextIsUndone : Type 0
NextIsUndone = (t u : Timestamp) → is_in_range t ≡ true → next_time t ≡ Some u → (is_in_range u ≡ true) × (previous_time u ≡ Some t)

-- the timestamp before t is in range, and the one after it is t
abbrev pub PreviousIsUndone : Type 0
PreviousIsUndone = (t u : Timestamp) → is_in_range t ≡ true → previous_time t ≡ Some u → (is_in_range u ≡ true) × (next_time u ≡ Some t)

-- the order of timestamps is total
abbrev pub TimesAreOrdered : Type 0
TimesAreOrdered = IsTotalOrder time_cmp

-- the order of names is total
abbrev pub NamesAreOrdered : Type 0
NamesAreOrdered = IsTotalOrder name_cmp

-- names that tie are one name
abbrev pub TiedNamesAreOne : Type 0
TiedNamesAreOne = (m n : Name) → name_cmp m n ≡ Equal → m ≡ n
