-- What is seen of points over what is seen of others.
use Rattle.std.proofs.Common.{◌≡◌, Bool, true, false, cond, List, ◌++◌, refl, sym, ap, ◌∙◌}
use Rattle.std.specs.Prelude.{Some, None}
use Rattle.std.specs.declared.option.Option.{Option}
use Rattle.mvcc_key.specs.Order.{Name}
use Rattle.mvcc_key.specs.Points.{Point}
use Rattle.mem_table.specs.Table.{newest_points}
use Rattle.merge_cursor.specs.Visible.{visible}
use Rattle.lsm_store.proofs.KnownLaws.{newer, keep, known, known-append, known-in_order, known-filter, sorted-in_order, sorted-filter, same-known}
use Rattle.lsm_store.proofs.ApplyLaws.{point_name, is_set}

-- a test that was passed before is passed again
keep-again : (test : Point → Bool) (o p : Option Point) → keep test (newer o (keep test p)) ≡ keep test (newer o p)
keep-again test (Some q) p = refl
keep-again test None None = refl
keep-again test None (Some p) = by (test p) refl
  where
    by : (b : Bool) → test p ≡ b → keep test (cond b (Some p) None) ≡ cond b (Some p) None
    by true is = rw is refl
    by false is = refl

-- what is seen of a name
known-seen : (n : Name) (ps : List Point) → known point_name n (visible (newest_points ps)) ≡ keep is_set (known point_name n ps)
known-seen n ps = known-filter point_name n is_set (newest_points ps) (sorted-in_order point_name ps) ∙ ap (keep is_set) (known-in_order point_name n ps)

-- points over those that are seen of others show what they show over the others
pub seen-older : (ps qs : List Point) → visible (newest_points (ps ++ visible (newest_points qs))) ≡ visible (newest_points (ps ++ qs))
seen-older ps qs =
    same-known point_name (visible (newest_points (ps ++ visible (newest_points qs)))) (visible (newest_points (ps ++ qs)))
    (sorted-filter point_name is_set (newest_points (ps ++ visible (newest_points qs))) (sorted-in_order point_name (ps ++ visible (newest_points qs))))
    (sorted-filter point_name is_set (newest_points (ps ++ qs)) (sorted-in_order point_name (ps ++ qs)))
    (λ n.
    known-seen n (ps ++ visible (newest_points qs))
    ∙ ap (keep is_set) (known-append point_name n ps (visible (newest_points qs)) ∙ ap (newer (known point_name n ps)) (known-seen n qs))
    ∙ keep-again is_set (known point_name n ps) (known point_name n qs)
    ∙ sym (known-seen n (ps ++ qs) ∙ ap (keep is_set) (known-append point_name n ps qs)))
