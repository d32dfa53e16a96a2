-- From the test of columns, and the order of their polygons, to what the call tells.
use Rattle.std.proofs.Common.{◌≡◌, ◌%◌, ◌-◌, ◌/◌, ℕ, List, arith, length, subst, sym}
use Rattle.std.specs.Prelude.{◌≢◌}
use Rattle.std.proofs.Math.IntN.{ℤ}
use Rattle.columns.specs.declared.answer.OwnedColumns.{OwnedColumns}
use Rattle.columns.specs.Layout.{pairs}
use Rattle.columns.proofs.PointColumns.{pairs_few}
use Rattle.polygon_order.specs.Order.{AreInShellOrder, AreOffsets}
use Rattle.overlay_c.specs.declared.columns_answer.OverlayColumnsAnswer.{OverlayColumnsAnswer}
use Rattle.overlay_c.specs.Columns.{Lists, lists_of, refused_answer}
use Rattle.overlay_c.specs.StripWrite.{AreOffsetsInPlace, AreWholeLists, AreWrittenTold, FailsWrite, IsBadOffset, IsOffset, IsOffsetBefore}
use Rattle.overlay_c.specs.StripWrite.FailsWrite.{bad_polygon, bad_ring, uneven}
use Rattle.overlay_c.proofs.StripLists.{all_pairs, each_item}

-- offsets that are in place ascend, and none lies beyond
pub offsets_are : (count : ℕ) (offsets : List ℕ) → AreOffsetsInPlace count offsets → AreOffsets count offsets
offsets_are count offsets h = record {
  ascending = all_pairs (IsOffset count) IsOffsetBefore offsets h (λ x y z a b. omega (arith, a, b));
  inside = each_item (IsOffset count) IsOffsetBefore offsets h;
}

-- half as many points as coordinates
pub points_half : (coordinates : List ℤ) → length coordinates / 2 ≡ length (pairs coordinates)
points_half coordinates = let few = pairs_few coordinates in let a = few.0 in let b = few.1 in omega (arith, a, b)

-- columns in the order of their shells
pub written_told : {M : Type 0} (given : Lists) (made : OwnedColumns M) → AreWholeLists given → AreInShellOrder given.coordinates given.rings given.polygons made
    → AreWrittenTold given (lists_of made)
written_told given made whole h = record {
  whole = whole;
  all = h.all;
  by_shell = h.by_shell;
  points = h.columns.have.points;
  rings = h.columns.have.offsets;
  polygons = h.columns.offsets;
}

-- ---- what is refused
module _ (given : Lists) (answer : OverlayColumnsAnswer) where
  pub uneven_told : length given.coordinates % 2 ≢ 0 → answer ≡ refused_answer 3 13 0 0 → FailsWrite given answer
  uneven_told odd e = subst (FailsWrite given) (sym e) (uneven odd)

  pub bad_ring_told : length given.coordinates % 2 ≡ 0 → (place : ℕ) → IsBadOffset (length given.coordinates / 2) given.rings place
      → answer ≡ refused_answer 3 16 0 place → FailsWrite given answer
  bad_ring_told even place bad e = subst (FailsWrite given) (sym e)
      (bad_ring even place (subst (λ (n : ℕ). IsBadOffset n given.rings place) (points_half given.coordinates) bad))

  pub bad_polygon_told : length given.coordinates % 2 ≡ 0 → AreOffsetsInPlace (length given.coordinates / 2) given.rings → (count : ℕ)
      → count ≡ length given.rings - 1 → (place : ℕ) → IsBadOffset count given.polygons place → answer ≡ refused_answer 3 15 0 place
      → FailsWrite given answer
  bad_polygon_told even rings count counts place bad e = subst (FailsWrite given) (sym e)
      (bad_polygon even (subst (λ (n : ℕ). AreOffsetsInPlace n given.rings) (points_half given.coordinates) rings) place
      (subst (λ (n : ℕ). IsBadOffset n given.polygons place) counts bad))

-- what isn't refused is whole
pub are_whole : (given : Lists) → length given.coordinates % 2 ≡ 0 → AreOffsetsInPlace (length given.coordinates / 2) given.rings → (count : ℕ)
    → count ≡ length given.rings - 1 → AreOffsetsInPlace count given.polygons → AreWholeLists given
are_whole given even rings count counts polygons = record {
  points = even;
  rings_are = offsets_are (length (pairs given.coordinates)) given.rings
      (subst (λ (n : ℕ). AreOffsetsInPlace n given.rings) (points_half given.coordinates) rings);
  polygons_are = offsets_are (length given.rings - 1) given.polygons (subst (λ (n : ℕ). AreOffsetsInPlace n given.polygons) counts polygons);
}
