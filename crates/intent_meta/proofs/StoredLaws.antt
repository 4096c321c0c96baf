-- What is stored of a history, seen as blocks: an intent's record with its provisional version behind it, or a version.
use Rattle.std.proofs.Common.{◌≡◌, false, List, [], ◌∷◌, ◌++◌, refl, sym, ap, subst, ◌∙◌, ◌⊎◌, inl, inr}
use Rattle.std.specs.Prelude.{map, ⊤}
use Rattle.std.specs.List.{AllByRecursion, flat_map}
use Rattle.std.specs.List.Sorted.{IsStrictlySortedBy}
use Rattle.std.specs.declared.cmp.Ordering.{Ordering}
use Rattle.std.specs.declared.cmp.Ordering.TheVariants.{Less, Equal, Greater}
use Rattle.std.specs.Ordering.{match_ordering, on}
use Rattle.std.specs.Cmp.{IsTotalOrder, tied_itself}
use Rattle.std.proofs.lemmas.Cmp.{on_total}
use Rattle.mvcc_key.specs.Lists.{put_in_order, in_order}
use Rattle.mvcc_key.specs.Order.{Timestamp, no_time, is_no_time, Key, key_cmp, Name, name_cmp}
use Rattle.mvcc_key.specs.History.{Version, version_name, version_cmp, Intent, intent_cmp}
use Rattle.mvcc_key.proofs.OrderLaws.{key_cmp-total, name_cmp-total}
use Rattle.mvcc_key.proofs.SortedLaws.{IsBelowAll}
use Rattle.mvcc_key.proofs.EachLaws.{All-in_order, All-append, All-map}
use Rattle.intent_meta.specs.StoredPairs.{provisional, Stored, RecordOf, VersionOf, stored_name, stored_cmp}

-- ---- blocks

-- what is stored for an intent, or for a version
pub data Block : Type 0 where
  OfIntent : (intent : Intent) → Block
  OfVersion : (version : Version) → Block

-- its first name
abbrev pub block_name : Block → Name
block_name (OfIntent i) = record { key = i.key; ts = no_time }
block_name (OfVersion v) = version_name v

abbrev pub block_cmp : Block → Block → Ordering
block_cmp = on block_name name_cmp

-- what it stores
abbrev pub expand : Block → List Stored
expand (OfIntent i) = RecordOf i ∷ VersionOf (provisional i) ∷ []
expand (OfVersion v) = VersionOf v ∷ []

-- the blocks of intents and versions, in order
abbrev pub blocks : List Intent → List Version → List Block
blocks is vs = in_order block_cmp (map OfIntent is ++ map OfVersion vs)

-- the versions among blocks
abbrev pub versions_among : List Block → List Version
versions_among [] = []
versions_among (OfIntent i ∷ bs) = versions_among bs
versions_among (OfVersion v ∷ bs) = v ∷ versions_among bs

-- the intents among blocks
abbrev pub intents_among : List Block → List Intent
intents_among [] = []
intents_among (OfIntent i ∷ bs) = i ∷ intents_among bs
intents_among (OfVersion v ∷ bs) = intents_among bs

-- a version has a timestamp
abbrev pub IsTimed : Block → Type 0
IsTimed (OfIntent i) = ⊤
IsTimed (OfVersion v) = is_no_time v.ts ≡ false

-- an intent's record ties with no version
untied : (i : Intent) (v : Version) → is_no_time v.ts ≡ false → block_cmp (OfIntent i) (OfVersion v) ≡ Equal → ⊥
untied i v timed tie = by (key_cmp i.key v.key) refl
  where
    by : (o : Ordering) → key_cmp i.key v.key ≡ o → ⊥
    by Less e = let f : Less ≡ Equal = rw e at tie in cc
    by Equal e = let f : Less ≡ Equal = rw (e, timed) at tie in cc
    by Greater e = let f : Greater ≡ Equal = rw e at tie in cc

-- an intent that is put among blocks leaves their versions
versions_among-put : (i : Intent) (bs : List Block) → AllByRecursion IsTimed bs → versions_among (put_in_order block_cmp (OfIntent i) bs) ≡ versions_among bs
versions_among-put i [] timed = refl
versions_among-put i (OfIntent j ∷ bs) timed = by (block_cmp (OfIntent i) (OfIntent j)) (versions_among-put i bs timed.1)
  where
    by : (o : Ordering) → versions_among (put_in_order block_cmp (OfIntent i) bs) ≡ versions_among bs
        → versions_among (match_ordering o (OfIntent i ∷ OfIntent j ∷ bs) (OfIntent i ∷ bs) (OfIntent j ∷ put_in_order block_cmp (OfIntent i) bs)) ≡ versions_among bs
    by Less rest = refl
    by Equal rest = refl
    by Greater rest = rest
versions_among-put i (OfVersion v ∷ bs) timed = by (block_cmp (OfIntent i) (OfVersion v)) refl (versions_among-put i bs timed.1)
  where
    by : (o : Ordering) → block_cmp (OfIntent i) (OfVersion v) ≡ o → versions_among (put_in_order block_cmp (OfIntent i) bs) ≡ versions_among bs
        → versions_among (match_ordering o (OfIntent i ∷ OfVersion v ∷ bs) (OfIntent i ∷ bs) (OfVersion v ∷ put_in_order block_cmp (OfIntent i) bs)) ≡ v ∷ versions_among bs
    by Less e rest = refl
    by Equal e rest = absurd (untied i v timed.0 e)
    by Greater e rest = ap (λ ws. v ∷ ws) rest

-- an intent below the others is put before them
intents_among-put : (i : Intent) (bs : List Block) → AllByRecursion IsTimed bs → IsBelowAll intent_cmp i (intents_among bs)
    → intents_among (put_in_order block_cmp (OfIntent i) bs) ≡ i ∷ intents_among bs
intents_among-put i [] timed below = refl
intents_among-put i (OfIntent j ∷ bs) timed below =
    let less : block_cmp (OfIntent i) (OfIntent j) ≡ Less = rw below.0 refl in
    ap (λ o. intents_among (match_ordering o (OfIntent i ∷ OfIntent j ∷ bs) (OfIntent i ∷ bs) (OfIntent j ∷ put_in_order block_cmp (OfIntent i) bs))) less
intents_among-put i (OfVersion v ∷ bs) timed below = by (block_cmp (OfIntent i) (OfVersion v)) refl (intents_among-put i bs timed.1 below)
  where
    by : (o : Ordering) → block_cmp (OfIntent i) (OfVersion v) ≡ o → intents_among (put_in_order block_cmp (OfIntent i) bs) ≡ i ∷ intents_among bs
        → intents_among (match_ordering o (OfIntent i ∷ OfVersion v ∷ bs) (OfIntent i ∷ bs) (OfVersion v ∷ put_in_order block_cmp (OfIntent i) bs)) ≡ i ∷ intents_among bs
    by Less e rest = refl
    by Equal e rest = absurd (untied i v timed.0 e)
    by Greater e rest = rest

-- versions in order are in order as blocks, and as what is stored
module _ {X : Type 0} (cmp : X → X → Ordering) (of : Version → X) (same : (v w : Version) → cmp (of v) (of w) ≡ version_cmp v w) where
  put_version : (v : Version) (vs : List Version) → IsBelowAll version_cmp v vs → put_in_order cmp (of v) (map of vs) ≡ of v ∷ map of vs
  put_version v [] below = refl
  put_version v (w ∷ ws) below = ap (λ o. match_ordering o (of v ∷ of w ∷ map of ws) (of v ∷ map of ws) (of w ∷ put_in_order cmp (of v) (map of ws))) (same v w ∙ below.0)

  pub in_order-versions : (vs : List Version) → IsStrictlySortedBy version_cmp vs → in_order cmp (map of vs) ≡ map of vs
  unfolding IsStrictlySortedBy
  in_order-versions [] sorted = refl
  in_order-versions (v ∷ vs) sorted = ap (put_in_order cmp (of v)) (in_order-versions vs sorted.1) ∙ put_version v vs sorted.0

-- versions alone
versions_among-versions : (vs : List Version) → versions_among (map OfVersion vs) ≡ vs
versions_among-versions [] = refl
versions_among-versions (v ∷ vs) = ap (λ ws. v ∷ ws) (versions_among-versions vs)

intents_among-versions : (vs : List Version) → intents_among (map OfVersion vs) ≡ []
intents_among-versions [] = refl
intents_among-versions (v ∷ vs) = intents_among-versions vs

-- intents have no version
timed_intents : (is : List Intent) → AllByRecursion IsTimed (map OfIntent is)
timed_intents [] = tt
timed_intents (i ∷ is) = (tt, timed_intents is)

timed_blocks : (is : List Intent) (vs : List Version) → AllByRecursion (λ v. is_no_time v.ts ≡ false) vs → AllByRecursion IsTimed (blocks is vs)
timed_blocks is vs timed =
    All-in_order block_cmp IsTimed (map OfIntent is ++ map OfVersion vs)
    (All-append IsTimed (map OfIntent is) (map OfVersion vs) (timed_intents is) (All-map IsTimed OfVersion vs timed))

-- the versions of the blocks are the versions
pub versions_among-blocks : (is : List Intent) (vs : List Version) → IsStrictlySortedBy version_cmp vs → AllByRecursion (λ v. is_no_time v.ts ≡ false) vs
    → versions_among (blocks is vs) ≡ vs
versions_among-blocks [] vs sorted timed = ap versions_among (in_order-versions block_cmp OfVersion (λ v w. refl) vs sorted) ∙ versions_among-versions vs
versions_among-blocks (i ∷ is) vs sorted timed = versions_among-put i (blocks is vs) (timed_blocks is vs timed) ∙ versions_among-blocks is vs sorted timed

-- the intents of the blocks are the intents
pub intents_among-blocks : (is : List Intent) (vs : List Version) → IsStrictlySortedBy intent_cmp is → IsStrictlySortedBy version_cmp vs → AllByRecursion (λ v. is_no_time v.ts ≡ false) vs
    → intents_among (blocks is vs) ≡ is
unfolding IsStrictlySortedBy
intents_among-blocks [] vs ordered sorted timed = ap intents_among (in_order-versions block_cmp OfVersion (λ v w. refl) vs sorted) ∙ intents_among-versions vs
intents_among-blocks (i ∷ is) vs ordered sorted timed =
    let rest = intents_among-blocks is vs ordered.1 sorted timed in
    intents_among-put i (blocks is vs) (timed_blocks is vs timed) (subst (IsBelowAll intent_cmp i) (sym rest) ordered.0) ∙ ap (λ js. i ∷ js) rest

-- ---- where an intent stands

-- by key, names compare as their keys
above_key : (a b : Key) (s t : Timestamp) → key_cmp a b ≡ Greater → name_cmp (record { key = a; ts = s }) (record { key = b; ts = t }) ≡ Greater
above_key a b s t h = rw h refl

pub below_key : (a b : Key) (s t : Timestamp) → key_cmp a b ≡ Less → name_cmp (record { key = a; ts = s }) (record { key = b; ts = t }) ≡ Less
below_key a b s t h = rw h refl

-- a record stands before the versions of its key
pub record_before : (key : Key) (ts : Timestamp) → is_no_time ts ≡ false → name_cmp (record { key = key; ts = no_time }) (record { key = key; ts = ts }) ≡ Less
record_before key ts timed = let same : key_cmp key key ≡ Equal = tied_itself key_cmp-total key in rw (same, timed) refl

-- the key of a block
abbrev block_key : Block → Key
block_key b = (block_name b).key

-- a block is of a lower key, or stands behind the intent's provisional version
abbrev pub IsPlaced : Intent → Block → Type 0
IsPlaced i b = (key_cmp i.key (block_key b) ≡ Greater) ⊎ (name_cmp (record { key = i.key; ts = i.ts }) (block_name b) ≡ Less)

pub stored_cmp-total : IsTotalOrder stored_cmp
stored_cmp-total = on_total stored_name name_cmp-total

-- what is put in front
put_front : (x y : Stored) (ys : List Stored) → stored_cmp x y ≡ Less → put_in_order stored_cmp x (y ∷ ys) ≡ x ∷ y ∷ ys
put_front x y ys h = ap (λ o. match_ordering o (x ∷ y ∷ ys) (x ∷ ys) (y ∷ put_in_order stored_cmp x ys)) h

-- what is put behind
put_behind : (x y : Stored) (ys : List Stored) → stored_cmp x y ≡ Greater → put_in_order stored_cmp x (y ∷ ys) ≡ y ∷ put_in_order stored_cmp x ys
put_behind x y ys h = ap (λ o. match_ordering o (x ∷ y ∷ ys) (x ∷ ys) (y ∷ put_in_order stored_cmp x ys)) h

-- what stands above a block by its key is put behind it
put_past : (x : Stored) (b : Block) (ys : List Stored) → key_cmp (stored_name x).key (block_key b) ≡ Greater
    → put_in_order stored_cmp x (expand b ++ ys) ≡ expand b ++ put_in_order stored_cmp x ys
put_past x (OfIntent i) ys h =
    put_behind x (RecordOf i) (VersionOf (provisional i) ∷ ys) (above_key (stored_name x).key i.key (stored_name x).ts no_time h)
    ∙ ap (λ zs. RecordOf i ∷ zs) (put_behind x (VersionOf (provisional i)) ys (above_key (stored_name x).key i.key (stored_name x).ts i.ts h))
put_past x (OfVersion v) ys h = put_behind x (VersionOf v) ys (above_key (stored_name x).key v.key (stored_name x).ts v.ts h)

-- what stands before a block is put in front of it
put_before : (x : Stored) (b : Block) (ys : List Stored) → name_cmp (stored_name x) (block_name b) ≡ Less → put_in_order stored_cmp x (expand b ++ ys) ≡ x ∷ (expand b ++ ys)
put_before x (OfIntent i) ys h = put_front x (RecordOf i) (VersionOf (provisional i) ∷ ys) h
put_before x (OfVersion v) ys h = put_front x (VersionOf v) ys h

-- a record and its provisional version are put where their block is
pub put_both : (i : Intent) (bs : List Block) → is_no_time i.ts ≡ false → AllByRecursion (IsPlaced i) bs
    → put_in_order stored_cmp (RecordOf i) (put_in_order stored_cmp (VersionOf (provisional i)) (flat_map expand bs)) ≡ flat_map expand (put_in_order block_cmp (OfIntent i) bs)
put_both i [] timed placed = put_front (RecordOf i) (VersionOf (provisional i)) [] (record_before i.key i.ts timed)
put_both i (b ∷ bs) timed placed = by placed.0 (put_both i bs timed placed.1)
  where
    rest : List Stored
    rest = flat_map expand bs

    by : IsPlaced i b → put_in_order stored_cmp (RecordOf i) (put_in_order stored_cmp (VersionOf (provisional i)) rest) ≡ flat_map expand (put_in_order block_cmp (OfIntent i) bs)
        → put_in_order stored_cmp (RecordOf i) (put_in_order stored_cmp (VersionOf (provisional i)) (expand b ++ rest)) ≡ flat_map expand (put_in_order block_cmp (OfIntent i) (b ∷ bs))
    by (inl above) others =
        let past : block_cmp (OfIntent i) b ≡ Greater = above_key i.key (block_key b) no_time (block_name b).ts above in
        ap (put_in_order stored_cmp (RecordOf i)) (put_past (VersionOf (provisional i)) b rest above)
        ∙ put_past (RecordOf i) b (put_in_order stored_cmp (VersionOf (provisional i)) rest) above
        ∙ ap (λ zs. expand b ++ zs) others
        ∙ sym (ap (λ o. flat_map expand (match_ordering o (OfIntent i ∷ b ∷ bs) (OfIntent i ∷ bs) (b ∷ put_in_order block_cmp (OfIntent i) bs))) past)
    by (inr behind) others =
        let first = record_before i.key i.ts timed in
        let before : block_cmp (OfIntent i) b ≡ Less =
        name_cmp-total.trans (record { key = i.key; ts = no_time }) (record { key = i.key; ts = i.ts }) (block_name b) first behind in
        ap (put_in_order stored_cmp (RecordOf i)) (put_before (VersionOf (provisional i)) b rest behind)
        ∙ put_front (RecordOf i) (VersionOf (provisional i)) (expand b ++ rest) first
        ∙ sym (ap (λ o. flat_map expand (match_ordering o (OfIntent i ∷ b ∷ bs) (OfIntent i ∷ bs) (b ∷ put_in_order block_cmp (OfIntent i) bs))) before)
