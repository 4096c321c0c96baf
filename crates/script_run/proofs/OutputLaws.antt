-- The text of a script begins with that of its whole lines.
use Rattle.std.specs.Prelude.{◌≡◌, ℕ, ◌+◌, Bool, true, false, List, [], ◌∷◌, ◌++◌, ◌==◌, ◌⊎◌}
use Rattle.std.proofs.Common.{refl, sym, ap, ◌∙◌, append_assoc, append-nil, inl, inr, arith}
use Rattle.std.proofs.lemmas.Bool.Decides.{nat_tests}
use Rattle.script_run.proofs.LineLaws.{up_to-more}
use Rattle.mvcc_key.specs.Cutting.{pieces}
use Rattle.mvcc_key.proofs.CuttingLaws.{pieces_some, pieces-append}
use Rattle.script_line.specs.CommandLine.{Options}
use Rattle.script_run.specs.Output.{ScriptState, first_script_state, Carried, carry_out, text_of, output_from, without_empty_end, lines, script_output, up_to_newline, whole_part}

module _ (options : Options) where
  -- the text of lines begins that of these and more lines
  output_from-begins : (s : ScriptState) (n : ℕ) (ls more : List (List ℕ)) → (rest : List ℕ) × (output_from options.stats s n (ls ++ more) ≡ output_from options.stats s n ls ++ rest)
  unfolding output_from
  output_from-begins s n [] more = (output_from options.stats s n more, refl)
  output_from-begins s n (l ∷ ls) more =
      let c : Carried = carry_out s n l in
      let rest = output_from-begins c.state (n + 1) ls more in
      (rest.0, ap (λ t. text_of options.stats c ++ t) rest.1 ∙ sym (append_assoc (text_of options.stats c) (output_from options.stats c.state (n + 1) ls) rest.0))

  without_empty_end-append : (ps qs : List (List ℕ)) (q : List ℕ) (rest : List (List ℕ)) → qs ≡ q ∷ rest
      → without_empty_end (ps ++ qs) ≡ ps ++ without_empty_end qs
  without_empty_end-append [] qs q rest is = refl
  without_empty_end-append (p ∷ []) qs q rest is = rw is refl
  without_empty_end-append (p ∷ o ∷ ps) qs q rest is = ap (λ ls. p ∷ ls) (without_empty_end-append (o ∷ ps) qs q rest is)

  -- the pieces between newlines
  abbrev newline_pieces : List ℕ → List (List ℕ)
  newline_pieces = pieces (λ b. b == 0x0a)

  -- the lines before a newline, and the lines behind it
  lines-append : (xs ys : List ℕ) → lines (xs ++ 0x0a ∷ ys) ≡ newline_pieces xs ++ lines ys
  unfolding lines
  lines-append xs ys =
      let some : (p : List ℕ) × (ps : List (List ℕ)) × (newline_pieces ys ≡ p ∷ ps) = pieces_some _ ys in
      ap without_empty_end (pieces-append _ xs 0x0a ys refl)
      ∙ without_empty_end-append (newline_pieces xs) (newline_pieces ys) some.0 some.1 some.2

  -- what ends in a newline, and what begins so
  newline-begins : (xs ys : List ℕ) → (rest : List ℕ) × (script_output options (xs ++ 0x0a ∷ ys) ≡ script_output options (xs ++ 0x0a ∷ []) ++ rest)
  unfolding script_output lines
  newline-begins xs ys =
      let more = output_from-begins (first_script_state options.count_max) 1 (newline_pieces xs) (lines ys) in
      let short : lines (xs ++ 0x0a ∷ []) ≡ newline_pieces xs = lines-append xs [] ∙ append-nil (newline_pieces xs) in
      (more.0, ap (output_from options.stats (first_script_state options.count_max) 1) (lines-append xs ys) ∙ more.1 ∙ ap (λ ls. output_from options.stats (first_script_state options.count_max) 1 ls ++ more.0) (sym short))

  -- the whole lines are none, or all up to a newline
  whole_part-cut : (xs : List ℕ) → (whole_part xs ≡ []) ⊎ ((ws : List ℕ) × (zs : List ℕ) × (xs ≡ ws ++ 0x0a ∷ zs) × (whole_part xs ≡ ws ++ 0x0a ∷ []))
  unfolding whole_part
  whole_part-cut [] = inl refl
  whole_part-cut (x ∷ xs) = by (whole_part-cut xs)
    where
      at_none : whole_part xs ≡ [] → (b : Bool) → (x == 0x0a) ≡ b
          → (up_to_newline x (whole_part xs) ≡ []) ⊎ ((ws : List ℕ) × (zs : List ℕ) × (x ∷ xs ≡ ws ++ 0x0a ∷ zs) × (up_to_newline x (whole_part xs) ≡ ws ++ 0x0a ∷ []))
      at_none none true is = let newline : x ≡ 0x0a = grind (arith, nat_tests) in inr ([], xs, ap (λ b. b ∷ xs) newline, rw (none, is) (ap (λ b. b ∷ []) newline))
      at_none none false is = inl (rw (none, is) refl)

      by : (whole_part xs ≡ []) ⊎ ((ws : List ℕ) × (zs : List ℕ) × (xs ≡ ws ++ 0x0a ∷ zs) × (whole_part xs ≡ ws ++ 0x0a ∷ []))
          → (up_to_newline x (whole_part xs) ≡ []) ⊎ ((ws : List ℕ) × (zs : List ℕ) × (x ∷ xs ≡ ws ++ 0x0a ∷ zs) × (up_to_newline x (whole_part xs) ≡ ws ++ 0x0a ∷ []))
      by (inl none) = at_none none (x == 0x0a) refl
      by (inr cut) = inr (x ∷ cut.0, cut.1, ap (λ l. x ∷ l) cut.2, ap (up_to_newline x) cut.3 ∙ up_to-more x cut.0 0x0a)

  -- there is no text without a line
  no_text : script_output options [] ≡ []
  unfolding script_output output_from lines
  no_text = refl

  -- the text of the whole lines of a beginning begins the text
  pub whole_part-begins : (xs ys : List ℕ) → (rest : List ℕ) × (script_output options (xs ++ ys) ≡ script_output options (whole_part xs) ++ rest)
  whole_part-begins xs ys = by (whole_part-cut xs)
    where
      by : (whole_part xs ≡ []) ⊎ ((ws : List ℕ) × (zs : List ℕ) × (xs ≡ ws ++ 0x0a ∷ zs) × (whole_part xs ≡ ws ++ 0x0a ∷ []))
          → (rest : List ℕ) × (script_output options (xs ++ ys) ≡ script_output options (whole_part xs) ++ rest)
      by (inl none) = (script_output options (xs ++ ys), rw (none, no_text) refl)
      by (inr cut) =
          let more = newline-begins cut.0 (cut.1 ++ ys) in
          let joined : xs ++ ys ≡ cut.0 ++ 0x0a ∷ (cut.1 ++ ys) = ap (λ l. l ++ ys) cut.2 ∙ append_assoc cut.0 (0x0a ∷ cut.1) ys in
          (more.0, ap (script_output options) joined ∙ more.1 ∙ ap (λ l. script_output options l ++ more.0) (sym cut.3))
