-- The roots of edges that go over a border, and the flags of all edges by them.
use Rattle.std.proofs.Common.{◌≡◌, ◌⊎◌, inl, inr, ℕ, ◌+◌, ◌<◌, true, false, Bool, List, length, set, sym, subst, ◌∙◌, arith, ⊎_elim}
use Rattle.std.specs.Prelude.{ℤ, slice_index, slice_index_or}
use Rattle.std.proofs.lemmas.Bool.{cases_eq, cases_lt}
use Rattle.std.proofs.lemmas.List.{get_or-set_other, get_or-set_same, length-set}
use Rattle.geom.specs.declared.directed.DirectedEdge.{DirectedEdge}
use Rattle.parts_law.specs.Ties.{GoesOver}
use Rattle.polygonize.specs.Next.{edge_at}
use Rattle.strip_polygons.specs.Parting.{AreOpenRoots, HasOver}

module _ (cuts : List ℤ) (from past : ℕ) (known : List DirectedEdge) where
  -- ---- one edge after another
  module _ (roots : List ℕ) where
    over_kept : (n r : ℕ) → HasOver cuts from past known roots n r → HasOver cuts from past known roots (n + 1) r
    over_kept n r h = record { place = h.place; inside = (let l = h.inside in omega arith); root = h.root; over = h.over }

    -- that of the last edge, or one before it
    last_or_before : (n r : ℕ) → HasOver cuts from past known roots (n + 1) r
        → ((slice_index roots n ≡ r) × GoesOver cuts from past (edge_at known n)) ⊎ HasOver cuts from past known roots n r
    last_or_before n r h = elim (cases_lt h.place n) [
      | inl b ↦ inr (record { place = h.place; inside = b; root = h.root; over = h.over })
      | inr b ↦ (let l = h.inside in
          let s : h.place ≡ n = omega arith in
          let P : ℕ → Type 0 = λ t. (slice_index roots t ≡ r) × GoesOver cuts from past (edge_at known t) in inl (subst P s (h.root, h.over)))
    ]

    pub root_opened : (n : ℕ) (flags : List Bool) → slice_index roots n < length known → GoesOver cuts from past (edge_at known n)
        → AreOpenRoots cuts from past known roots n flags → AreOpenRoots cuts from past known roots (n + 1) (set flags (slice_index roots n) true)
    root_opened n flags inside over a = record {
      same_length = length-set flags (slice_index roots n) true ∙ a.same_length;
      exact = λ r below. (to r below, of r below);
    }
      where
        there : slice_index roots n < length flags
        there = let e = a.same_length in omega (arith, e, inside)

        to : (r : ℕ) → r < length known → slice_index_or (set flags (slice_index roots n) true) r false ≡ true
            → HasOver cuts from past known roots (n + 1) r
        to r below t = elim (cases_eq r (slice_index roots n)) [
          | inl e ↦ record { place = n; inside = omega arith; root = sym e; over = over }
          | inr o ↦ over_kept n r ((a.exact r below).0 (sym (get_or-set_other flags (slice_index roots n) r true false o) ∙ t))
        ]

        of : (r : ℕ) → r < length known → HasOver cuts from past known roots (n + 1) r
            → slice_index_or (set flags (slice_index roots n) true) r false ≡ true
        of r below h = elim (cases_eq r (slice_index roots n)) [
          | inl e ↦ (let P : ℕ → Type 0 = λ t. slice_index_or (set flags (slice_index roots n) true) t false ≡ true in
              subst P (sym e) (get_or-set_same flags (slice_index roots n) true false there))
          | inr o ↦ get_or-set_other flags (slice_index roots n) r true false o
              ∙ ⊎_elim (λ l. absurd (o (sym l.0))) (λ l. (a.exact r below).1 l) (last_or_before n r h)
        ]

    pub root_left : (n : ℕ) (flags : List Bool) → ¬ (GoesOver cuts from past (edge_at known n)) → AreOpenRoots cuts from past known roots n flags
        → AreOpenRoots cuts from past known roots (n + 1) flags
    root_left n flags stays a = record {
      same_length = a.same_length;
      exact = λ r below. (
        λ t. over_kept n r ((a.exact r below).0 t),
        λ h. ⊎_elim (λ l. absurd (stays l.1)) (λ l. (a.exact r below).1 l) (last_or_before n r h),
      );
    }
