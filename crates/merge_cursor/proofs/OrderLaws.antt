-- The order of names on the way ahead and back.
use Rattle.std.proofs.Common.{◌≡◌, Bool, true, false, not, ap, ◌∙◌}
use Rattle.std.specs.declared.cmp.Ordering.TheVariants.{Less, Equal, Greater}
use Rattle.std.specs.Ordering.{is_lt, is_eq, ordering_reverse}
use Rattle.std.specs.Cmp.{Equal-is}
use Rattle.std.proofs.lemmas.Cmp.{tied_itself, tied_back}
use Rattle.mvcc_key.specs.Order.{Name, name_cmp, is_same_name}
use Rattle.mvcc_key.proofs.OrderLaws.{name_cmp-total, name_cmp-IsAntisymmetric}
use Rattle.mvcc_key.proofs.TimeLaws.{less_from}
use Rattle.merge_cursor.specs.views.Standing.{precedes}

-- ---- names that tie

-- the other way round
pub back-greater : (a b : Name) → name_cmp a b ≡ Less → name_cmp b a ≡ Greater
back-greater a b h = name_cmp-total.antisymm b a ∙ ap ordering_reverse h

pub back-less : (a b : Name) → name_cmp a b ≡ Greater → name_cmp b a ≡ Less
back-less a b h = name_cmp-total.antisymm b a ∙ ap ordering_reverse h

-- names that tie are one name
pub is_same_name-one : (a b : Name) → is_same_name a b ≡ true → a ≡ b
is_same_name-one a b h = name_cmp-IsAntisymmetric a b ((Equal-is (name_cmp a b)).0 h)

-- a name is itself
pub is_same_name-itself : (a : Name) → is_same_name a a ≡ true
is_same_name-itself a = ap is_eq (tied_itself name_cmp-total a)

-- ---- which comes before

-- the answers of a comparison
pub precedes-less : (ahead : Bool) (a b : Name) → name_cmp a b ≡ Less → precedes ahead a b ≡ ahead
precedes-less true a b h = ap is_lt h
precedes-less false a b h = ap is_lt (back-greater a b h)

pub precedes-equal : (ahead : Bool) (a b : Name) → name_cmp a b ≡ Equal → precedes ahead a b ≡ false
precedes-equal true a b h = ap is_lt h
precedes-equal false a b h = ap is_lt (tied_back name_cmp-total a b h)

pub precedes-greater : (ahead : Bool) (a b : Name) → name_cmp a b ≡ Greater → precedes ahead a b ≡ not ahead
precedes-greater true a b h = ap is_lt h
precedes-greater false a b h = ap is_lt (back-less a b h)

-- one before another that is before a third is before it
pub precedes-trans : (ahead : Bool) (a b c : Name) → precedes ahead a b ≡ true → precedes ahead b c ≡ true → precedes ahead a c ≡ true
precedes-trans true a b c h k = ap is_lt (name_cmp-total.trans a b c (less_from _ h) (less_from _ k))
precedes-trans false a b c h k = ap is_lt (name_cmp-total.trans c b a (less_from _ k) (less_from _ h))

-- none is before itself
pub precedes-itself : (ahead : Bool) (a : Name) → precedes ahead a a ≡ false
precedes-itself ahead a = precedes-equal ahead a a (tied_itself name_cmp-total a)
