-- What forms of words mean, computed from the definitions.
use Rattle.std.specs.Prelude.{◌≡◌, true, List, [], ◌∷◌, map, replicate, Some, None, is_none, codes, refl, ⊤, pos, negsuc}
use Rattle.std.specs.List.{list_all}
use Rattle.uuid.specs.Text.{by_index}
use Rattle.script_words.specs.Forms as forms
use Rattle.script_words.specs.Forms.{text, number_up_to, number_in, number_from, integer, nanos, wall}
use Rattle.script_words.specs.Words.{words, has, are_only, value_of}

-- what an example unfolds
unfoldable pub on_forms : ⊤
unfolding by_index forms.name text number_up_to number_in integer forms.range forms.ranges forms.id nanos wall forms.time words has are_only value_of
on_forms = tt

-- TEXT: bytes that stand for themselves
empty_text : text [] ≡ Some []
unfolding on_forms
empty_text = refl

printed_bytes : text (codes "!\"#$%&'()*+,-./09:;<=>?@AZ[]^_`az{|}~") ≡ Some (codes "!\"#$%&'()*+,-./09:;<=>?@AZ[]^_`az{|}~")
unfolding on_forms
printed_bytes = refl

-- a byte that is not printed stands nowhere in a text
unprinted_bytes : list_all (λ b. is_none (text (b ∷ []))) (0x00 ∷ 0x09 ∷ 0x0a ∷ 0x0d ∷ 0x1f ∷ 0x20 ∷ 0x7f ∷ 0x80 ∷ 0xff ∷ []) ≡ true
unfolding on_forms
unprinted_bytes = refl

unprinted_behind : list_all (λ b. is_none (text (0x61 ∷ b ∷ 0x61 ∷ []))) (0x00 ∷ 0x0d ∷ 0x20 ∷ 0x7f ∷ 0xff ∷ []) ≡ true
unfolding on_forms
unprinted_behind = refl

-- escapes
backslash : text (0x5c ∷ 0x5c ∷ []) ≡ Some (0x5c ∷ [])
unfolding on_forms
backslash = refl

two_backslashes : text (0x5c ∷ 0x5c ∷ 0x5c ∷ 0x5c ∷ []) ≡ Some (0x5c ∷ 0x5c ∷ [])
unfolding on_forms
two_backslashes = refl

small_digits : text (codes "\\x01\\x23\\x45\\x67\\x89\\xab\\xcd\\xef") ≡ Some (0x01 ∷ 0x23 ∷ 0x45 ∷ 0x67 ∷ 0x89 ∷ 0xab ∷ 0xcd ∷ 0xef ∷ [])
unfolding on_forms
small_digits = refl

capital_digits : text (codes "\\xAB\\xCD\\xEF\\xaB\\xCd\\xFf") ≡ Some (0xab ∷ 0xcd ∷ 0xef ∷ 0xab ∷ 0xcd ∷ 0xff ∷ [])
unfolding on_forms
capital_digits = refl

any_byte : text (codes "\\x00\\x09\\x0a\\x0d\\x20\\x22\\x5c\\x7f\\xff") ≡ Some (0x00 ∷ 0x09 ∷ 0x0a ∷ 0x0d ∷ 0x20 ∷ 0x22 ∷ 0x5c ∷ 0x7f ∷ 0xff ∷ [])
unfolding on_forms
any_byte = refl

-- what an escape writes begins no other
escapes_side_by_side : text (codes "a\\\\x41\\x5cx41\\x41b") ≡ Some (codes "a\\x41\\x41Ab")
unfolding on_forms
escapes_side_by_side = refl

-- bad escapes: cut short, another letter, and what is no digit in either place
cut_short : list_all (λ t. is_none (text t)) (codes "\\" ∷ codes "a\\" ∷ codes "\\\\\\" ∷ codes "\\x" ∷ codes "\\x4" ∷ codes "a\\x" ∷ codes "a\\x4" ∷ codes "\\\\\\x4" ∷ []) ≡ true
unfolding on_forms
cut_short = refl

other_letters : list_all (λ t. is_none (text t)) (codes "\\n" ∷ codes "\\X41" ∷ codes "\\0" ∷ codes "\\u0041" ∷ codes "\\\"" ∷ codes "\\ " ∷ []) ≡ true
unfolding on_forms
other_letters = refl

no_digits : list_all (λ t. is_none (text t))
    (codes "\\xg0" ∷ codes "\\x0g" ∷ codes "\\xG0" ∷ codes "\\x0G" ∷ codes "\\x/0" ∷ codes "\\x0:" ∷ codes "\\x@0" ∷ codes "\\x0`" ∷ codes "\\x 0" ∷ codes "\\x0 " ∷ codes "\\xx41"
    ∷ codes "\\x\\41" ∷ codes "\\x4\\1" ∷ codes "\\x\\\\" ∷ codes "\\x4\\\\" ∷ [])
    ≡ true
unfolding on_forms
no_digits = refl

-- NAME
names : map forms.name (codes "A" ∷ codes "azAZ09_-" ∷ codes "-" ∷ replicate 64 0x61 ∷ []) ≡ Some (codes "A") ∷ Some (codes "azAZ09_-") ∷ Some (codes "-") ∷ Some (replicate 64 0x61) ∷ []
unfolding on_forms
names = refl

no_names : list_all (λ n. is_none (forms.name n)) ([] ∷ replicate 65 0x61 ∷ codes "a.b" ∷ codes "a/b" ∷ codes "a:b" ∷ codes "a@b" ∷ codes "a[b" ∷ codes "a`b" ∷ codes "a{b" ∷ codes "a b" ∷ codes "\\x61" ∷ (0xc3 ∷ 0xa4 ∷ []) ∷ (0x61 ∷ 0x00 ∷ []) ∷ []) ≡ true
unfolding on_forms
no_names = refl

-- INT at its ends
integers : map integer (codes "0" ∷ codes "-0" ∷ codes "9223372036854775807" ∷ codes "-9223372036854775808" ∷ codes "0000000000000000001" ∷ codes "-0000000000000000001" ∷ [])
    ≡ Some (pos 0) ∷ Some (pos 0) ∷ Some (pos 9223372036854775807) ∷ Some (negsuc 9223372036854775807) ∷ Some (pos 1) ∷ Some (negsuc 0) ∷ []
unfolding on_forms
integers = refl

no_integers : list_all (λ n. is_none (integer n))
    ([] ∷ codes "-" ∷ codes "--1" ∷ codes "+1" ∷ codes "1-" ∷ codes "1.0" ∷ codes "9223372036854775808" ∷ codes "-9223372036854775809" ∷ codes "00000000000000000001" ∷ codes "-00000000000000000001" ∷ []) ≡ true
unfolding on_forms
no_integers = refl

-- SEQS: numbers up to 2^32-1, in any order
ranges_of_sequences : map forms.ranges (codes "1-2" ∷ codes "3-2,0-4294967295,0000000000000000001-1" ∷ [])
    ≡ Some (record { first = 1; last = 2 } ∷ []) ∷ Some (record { first = 3; last = 2 } ∷ record { first = 0; last = 4294967295 } ∷ record { first = 1; last = 1 } ∷ []) ∷ []
unfolding on_forms
ranges_of_sequences = refl

no_ranges : list_all (λ r. is_none (forms.ranges r))
    ([] ∷ codes "," ∷ codes "1" ∷ codes "1-" ∷ codes "-1" ∷ codes "-" ∷ codes "1-2," ∷ codes ",1-2" ∷ codes "1-2,,3-4" ∷ codes "1-2-3" ∷ codes "1--2" ∷ codes "+1-2" ∷ codes "1-2;3-4" ∷ codes "4294967296-1" ∷ codes "0-4294967296" ∷ []) ≡ true
unfolding on_forms
no_ranges = refl

-- UUID in each of its forms
ids : map forms.id (codes "0123456789abcdefABCDEF0123456789" ∷ codes "01234567-89ab-cdef-ABCD-EF0123456789" ∷ codes "{01234567-89AB-CDEF-abcd-ef0123456789}" ∷ codes "urn:uuid:01234567-89ab-cdef-abcd-ef0123456789" ∷ [])
    ≡ replicate 4 (Some (0x01 ∷ 0x23 ∷ 0x45 ∷ 0x67 ∷ 0x89 ∷ 0xab ∷ 0xcd ∷ 0xef ∷ 0xab ∷ 0xcd ∷ 0xef ∷ 0x01 ∷ 0x23 ∷ 0x45 ∷ 0x67 ∷ 0x89 ∷ []))
unfolding on_forms
ids = refl

no_ids : list_all (λ i. is_none (forms.id i))
    ([] ∷ codes "0123456789abcdefabcdef012345678" ∷ codes "0123456789abcdefabcdef0123456789a" ∷ codes "0123456789abcdefabcdef012345678g" ∷ codes "0123456-789ab-cdef-abcd-ef0123456789" ∷ codes "{0123456789abcdefabcdef0123456789}"
    ∷ codes "{01234567-89ab-cdef-abcd-ef0123456789)" ∷ codes "URN:UUID:01234567-89ab-cdef-abcd-ef0123456789" ∷ codes "urn:uuid:0123456789abcdefabcdef0123456789" ∷ []) ≡ true
unfolding on_forms
no_ids = refl

-- TIME and NUM at their ends
times : map forms.time (codes "0" ∷ codes "1.5" ∷ codes "0.000000001,2147483647" ∷ codes "9223372036.854775807" ∷ codes "000000000000000000000000003,00" ∷ [])
    ≡ Some (record { wall = 0; logical = 0 }) ∷ Some (record { wall = 1500000000; logical = 0 }) ∷ Some (record { wall = 1; logical = 2147483647 }) ∷ Some (record { wall = 9223372036854775807; logical = 0 })
    ∷ Some (record { wall = 3000000000; logical = 0 }) ∷ []
unfolding on_forms
times = refl

no_times : list_all (λ t. is_none (forms.time t))
    (codes "" ∷ codes "1." ∷ codes ".5" ∷ codes "1.0000000000" ∷ codes "1," ∷ codes ",1" ∷ codes "1,2147483648" ∷ codes "1,2,3" ∷ codes "1.2.3" ∷ codes "+1" ∷ codes "-1" ∷ codes "9223372037" ∷ codes "9223372036.854775808" ∷ [])
    ≡ true
unfolding on_forms
no_times = refl

numbers : map (number_from 1) (codes "1" ∷ codes "9223372036854775807" ∷ codes "0000000000000000001" ∷ []) ≡ Some 1 ∷ Some 9223372036854775807 ∷ Some 1 ∷ []
unfolding on_forms
numbers = refl

no_numbers : list_all (λ n. is_none (number_from 1 n)) (codes "" ∷ codes "0" ∷ codes "9223372036854775808" ∷ codes "00000000000000000001" ∷ codes "+1" ∷ codes "1x" ∷ []) ≡ true
unfolding on_forms
no_numbers = refl
