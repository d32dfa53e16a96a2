use Rattle.std.proofs.Common.{◌≡◌, Bool, true, false, ⊎_elim, ℕ, ◌<◌, ◌≤◌, List, length, get_or, int_le, rules, sym, ap, subst, arith}
use Rattle.std.specs.List.{AllPairs, AllWithin}
use Rattle.std.specs.List.Sorted.{IsPartitionedBy}
use Rattle.std.specs.Prelude.{◌<ℤ◌}
use Rattle.std.proofs.Math.IntN.{ℤ}
use Rattle.std.proofs.lemmas.Bool.{cases_lt}
use Rattle.std.proofs.lemmas.List.Sorted.{IsPartitionPoint-from_clause}
use Rattle.geom.specs.declared.edge.Counted.{Counted}
use Rattle.geom.specs.EdgeOrder.{IsEdgeBefore}
use Rattle.geom.proofs.Numbers.{le_le, le_lt}
use Rattle.geom.proofs.Orders.{clash_same}
use Rattle.geom.proofs.Tests.{le_told, le_untold, le_yes}
use Rattle.label_sweep.proofs.Borders.{edge_not_right}
use Rattle.label_sweep.proofs.strips.column_end.Goals as goal

-- whether an edge begins in the border's column or before
abbrev is_up_to : ℤ → Counted → Bool
is_up_to border c = int_le c.edge.p.x border

module _ (border : ℤ) (cs : List Counted) where
  parted : AllPairs (λ c d. IsEdgeBefore c.edge d.edge) cs → IsPartitionedBy (is_up_to border) cs
  parted ascending i j d l m h = ⊎_elim
      (λ k. le_yes _ _ (le_le _ _ _ (edge_not_right (get_or cs i d).edge (get_or cs j d).edge (ascending i j d k m)) (le_told _ _ h)))
      (λ k. subst (λ n. is_up_to border (get_or cs n d) ≡ true) (same k) h) (cases_lt i j)
    where
      same : j ≤ i → j ≡ i
      same k = omega (arith, k, l)

  module _ (end : ℕ) (upto : AllWithin (λ c. is_up_to border c ≡ true) cs 0 end) (past : AllWithin (λ c. is_up_to border c ≡ false) cs end (length cs)) where
    -- an edge that begins in it stands before its end
    before_end : (n : ℕ) (c : Counted) → n < length cs → (get_or cs n c).edge.p.x ≡ border → n < end
    before_end n c l e = no_more (λ k. clash_same (le_untold _ _ (past n c k l)) (sym e))
      where
        no_more : (end ≤ n → ⊥) → n < end
        no_more h = omega arith

    -- behind its end a column opens
    opens : (c : Counted) → end < length cs → AllWithin (λ d. d.edge.p.x <ℤ (get_or cs end c).edge.p.x) cs 0 end
    opens c l i d low high = le_lt _ _ _ (le_told _ _ (upto i d low high)) (le_untold _ _ (past end c (omega arith) l))

pub returns : goal.returns
returns c =
    let cs = c.args.counted.now in
    let last = c.index-counted-number.result in
    let border = last.edge.p.x in
    let end = c.partition_point.result in
    let point = IsPartitionPoint-from_clause (is_up_to border) cs end c.partition_point.ensures.partitioned (parted border cs c.requires.ascending) (λ a r f k. search rules) in
    record {
      past = before_end border cs end point.0 point.1 c.args.number last c.requires.within (ap (λ (d : Counted). d.edge.p.x) (sym c.index-counted-number.is));
      within = c.partition_point.ensures.bound;
      column = opens border cs end point.0 point.1;
    }
