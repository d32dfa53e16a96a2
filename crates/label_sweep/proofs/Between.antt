-- Points that lie in strips of columns: of strips behind one another, and of all columns.
use Rattle.std.proofs.Common.{◌≡◌, ◌⊎◌, inl, inr, ⊎_elim, ℕ, ◌<◌, ◌≤◌, List, [], ◌∷◌, ◌++◌, flat_map, length, get_or, sym, ap, ◌∙◌, subst, arith}
use Rattle.std.specs.List.{All, AllPairs, AllZip, Contains}
use Rattle.std.specs.Prelude.{◌<ℤ◌, ◌≤ℤ◌}
use Rattle.std.proofs.Math.IntN.{ℤ}
use Rattle.std.proofs.lemmas.Bool.{cases_lt}
use Rattle.std.proofs.lemmas.Int.{by_lt_z}
use Rattle.std.proofs.lemmas.List.{get_or_default}
use Rattle.std.proofs.lemmas.List.Elements.{All-head, All-tail}
use Rattle.geom.specs.declared.point.Pt.{Pt}
use Rattle.geom.specs.declared.edge.Edge.{Edge}
use Rattle.geom.specs.declared.edge.Counted.{Counted}
use Rattle.geom.specs.EdgeOrder.{IsEdgeBefore}
use Rattle.geom.specs.Rounded.{edges_of}
use Rattle.geom.proofs.Lists.{contains_in, in_contains, in_map}
use Rattle.geom.proofs.Numbers.{itself, le_le, lt_le, weak}
use Rattle.hands.specs.declared.part.Part.{Part}
use Rattle.hands.specs.Consecutive.{ArePartsOf}
use Rattle.hands.proofs.Consecutive.{behind_one_another}
use Rattle.label_sweep.proofs.Borders.{clash, edge_not_right}
use Rattle.label_sweep.proofs.Members.{some_item}
use Rattle.label_sweep.specs.Column.{IsStrip, LiesBetween, OpensColumn}
use Rattle.label_sweep.specs.Status.{IsVertexOf}

-- ---- strips behind one another
module _ (cs : List Counted) where
  -- the column where the edge with a number begins
  abbrev column : ℕ → Counted → ℤ
  column n c = (get_or cs n c).edge.p.x

  same_column : (n : ℕ) (c d : Counted) → n < length cs → column n c ≡ column n d
  same_column n c d l = ap (λ (e : Counted). e.edge.p.x) (get_or_default cs n c d l)

  -- no point lies in no columns
  pub none_between : (n : ℕ) (v : Pt) → LiesBetween cs n n v → ⊥
  none_between n v h = let l = h.from_edge.0 in let c = some_item cs n l in clash (h.to_edge c l) (h.from_edge.1 c)

  -- where a column opens, no edge before begins in a later one
  pub opens_after : (a b : ℕ) → a ≤ b → OpensColumn cs b → (c : Counted) → b < length cs → column a c ≤ℤ column b c
  opens_after a b low opens c l = ⊎_elim (λ m. weak _ _ (opens c l a c (omega arith) m)) (λ m. same (again m)) (cases_lt a b)
    where
      again : b ≤ a → a ≡ b
      again m = omega (arith, low, m)

      same : a ≡ b → column a c ≤ℤ column b c
      same q = subst (λ n. column a c ≤ℤ column n c) q (itself _)

  module _ (a b c : ℕ) (low : a ≤ b) (high : b ≤ c) (v : Pt) where
    -- what lies in the front lies in both
    pub between_front : OpensColumn cs c → LiesBetween cs a b v → LiesBetween cs a c v
    between_front opens h = record {
      from_edge = h.from_edge;
      to_edge = λ d l. lt_le _ _ _ (h.to_edge d (omega (arith, high, l))) (opens_after b c high opens d l);
    }

    -- what lies in the back lies in both
    pub between_behind : OpensColumn cs b → LiesBetween cs b c v → LiesBetween cs a c v
    between_behind opens h = record {
      from_edge = (omega (arith, low, h.from_edge.0), λ d. le_le _ _ _ (opens_after a b low opens d h.from_edge.0) (h.from_edge.1 d));
      to_edge = h.to_edge;
    }

    -- what lies in both lies in one of them
    pub between_cases : LiesBetween cs a c v → LiesBetween cs a b v ⊎ LiesBetween cs b c v
    between_cases h = ⊎_elim inside (λ m. inl (record { from_edge = h.from_edge; to_edge = λ d l. absurd (omega (arith, l, m)) })) (cases_lt b (length cs))
      where
        inside : b < length cs → LiesBetween cs a b v ⊎ LiesBetween cs b c v
        inside l = let e = some_item cs b l in by_lt_z v.x (column b e)
            (λ m. inl (record { from_edge = h.from_edge; to_edge = λ d k. subst (λ x. v.x <ℤ x) (same_column b e d l) m }))
            (λ m. inr (record { from_edge = (l, λ d. subst (λ x. x ≤ℤ v.x) (same_column b e d l) m); to_edge = h.to_edge }))

  -- what lies in the front lies on the left of what lies in the back
  pub front_is_left : (a b c : ℕ) (u v : Pt) → LiesBetween cs a b u → LiesBetween cs b c v → u.x <ℤ v.x
  front_is_left a b c u v h k = let l = k.from_edge.0 in let e = some_item cs b l in lt_le _ _ _ (h.to_edge e l) (k.from_edge.1 e)

  -- the first column opens, and so does what is behind the last one
  pub first_opens : OpensColumn cs 0
  first_opens c l i d m n = absurd (omega (arith, n))

  pub end_opens : OpensColumn cs (length cs)
  end_opens c l = absurd (omega (arith, l))

  -- so all columns are a strip
  pub whole : (strip : Part) → strip.from ≡ 0 → strip.past ≡ length cs → IsStrip cs strip
  whole strip e f = record {
    order = omega (arith, e);
    within = omega (arith, f);
    column = subst (OpensColumn cs) (sym e) first_opens;
    next_column = subst (OpensColumn cs) (sym f) end_opens;
  }

  -- all vertices of ascending edges lie between the first column and the last one
  pub all_between : AllPairs (λ c d. IsEdgeBefore c.edge d.edge) cs → (v : Pt) → IsVertexOf (edges_of cs) v → LiesBetween cs 0 (length cs) v
  all_between ascending v x = record {
    from_edge = (omega (arith, number.1), λ d. first_is_least d);
    to_edge = λ d l. absurd (omega (arith, l));
  }
    where
      of_edge : (c : Counted) × Contains cs c × (c.edge ≡ x.edge)
      of_edge = let i = in_map (λ (c : Counted). c.edge) cs x.edge (contains_in (edges_of cs) x.edge x.inside) in (i.0, in_contains cs i.0 i.1, i.2)

      number : Contains cs of_edge.0
      number = of_edge.1

      at_number : (d : Counted) → get_or cs number.0 d ≡ of_edge.0
      at_number d = get_or_default cs number.0 d of_edge.0 number.1 ∙ number.2

      first_up_to : (d : Counted) → column 0 d ≤ℤ column number.0 d
      first_up_to d = ⊎_elim (λ m. edge_not_right (get_or cs 0 d).edge (get_or cs number.0 d).edge (ascending 0 number.0 d m number.1)) (λ m. same (none m)) (cases_lt 0 number.0)
        where
          none : number.0 ≤ 0 → 0 ≡ number.0
          none m = omega (arith, m)

          same : 0 ≡ number.0 → column 0 d ≤ℤ column number.0 d
          same q = subst (λ n. column 0 d ≤ℤ column n d) q (itself _)

      up_to_start : (d : Counted) → column 0 d ≤ℤ x.edge.p.x
      up_to_start d = subst (λ (e : Edge). column 0 d ≤ℤ e.p.x) of_edge.2 (subst (λ (c : Counted). column 0 d ≤ℤ c.edge.p.x) (at_number d) (first_up_to d))

      first_is_least : (d : Counted) → column 0 d ≤ℤ v.x
      first_is_least d = ⊎_elim
          (λ q. subst (λ (p : Pt). column 0 d ≤ℤ p.x) (sym q) (up_to_start d))
          (λ q. subst (λ (p : Pt). column 0 d ≤ℤ p.x) (sym q) (le_le _ _ _ (up_to_start d) x.edge.ordered.column))
          x.ends

-- What holds of no columns, and of two strips behind one another if it holds of each, holds of all columns by their strips; where strips meet, a column opens.
module _ {X V : Type 0} (items : V → List X) (cs : List Counted) (Holds : ℕ → ℕ → List X → Type 0) (none : (a : ℕ) → Holds a a [])
    (both : (a b c : ℕ) (xs ys : List X) → a ≤ b → b ≤ c → OpensColumn cs b → OpensColumn cs c → Holds a b xs → Holds b c ys → Holds a c (xs ++ ys)) where
  -- that it holds from where a column opens to where one does
  abbrev Opening : ℕ → ℕ → List X → Type 0
  Opening a b xs = OpensColumn cs a → OpensColumn cs b × Holds a b xs

  each_opens : (ps : List Part) (vs : List V) → All (IsStrip cs) ps → AllZip (λ (p : Part) v. Holds p.from p.past (items v)) ps vs → AllZip (λ (p : Part) v. Opening p.from p.past (items v)) ps vs
  each_opens [] [] strips zip = zip
  each_opens [] (v ∷ vs) strips zip = absurd zip
  each_opens (p ∷ ps) [] strips zip = absurd zip
  each_opens (p ∷ ps) (v ∷ vs) strips zip = ((λ o. ((All-head (IsStrip cs) p ps strips).next_column, zip.0)), each_opens ps vs (All-tail (IsStrip cs) p ps strips) zip.1)

  pub of_strips : (ps : List Part) (vs : List V) → ArePartsOf 0 (length cs) ps → All (IsStrip cs) ps → AllZip (λ (p : Part) v. Holds p.from p.past (items v)) ps vs → Holds 0 (length cs) (flat_map items vs)
  of_strips ps vs parts strips zip = (behind_one_another items Opening
      (λ a o. (o, none a))
      (λ a b c xs ys low high h k o. let i = h o in let j = k i.0 in (j.0, both a b c xs ys low high i.0 j.0 i.1 j.1))
      0 (length cs) ps vs parts (each_opens ps vs strips zip) (first_opens cs)).1
