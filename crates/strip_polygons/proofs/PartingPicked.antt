-- Edges that are picked from ascending ones, one after another.
use Rattle.std.proofs.Common.{◌≡◌, inl, inr, ℕ, ◌+◌, ◌<◌, true, false, Bool, List, [], ◌∷◌, ◌++◌, length, get_or, refl, sym, subst, ◌∙◌, arith, ⊎_elim}
use Rattle.std.specs.Prelude.{ℤ, All, AllPairs, Contains, slice_index_or}
use Rattle.std.proofs.lemmas.Bool.{cases_lt, false≢true}
use Rattle.std.proofs.lemmas.List.{get_or_default}
use Rattle.std.proofs.lemmas.List.Elements.{All-contains_itself, All-weaker, Contains-append_left, Contains-get_or, Contains-push, Contains-push_cases}
use Rattle.std.proofs.lemmas.List.Quantifiers.{all_pairs_push}
use Rattle.geom.specs.declared.directed.DirectedEdge.{DirectedEdge}
use Rattle.geom.specs.Directed.{IsDirectedBefore}
use Rattle.geom.specs.Limit.{AreInLimit}
use Rattle.parts_law.specs.Ties.{AreParted, BeginsFrom, IsOpen}
use Rattle.polygonize.specs.Next.{edge_at, nothing}
use Rattle.strip_polygons.specs.Parting.{IsAddedIf, TellOpen}

-- the edge at the place is closed
abbrev pub IsClosedAt : List Bool → ℕ → Type 0
IsClosedAt flags k = slice_index_or flags k false ≡ false

-- it is open, and begins in the strips
abbrev pub WaitsAt : List ℤ → ℕ → List DirectedEdge → List Bool → ℕ → Type 0
WaitsAt cuts from known flags k = (slice_index_or flags k false ≡ true) × BeginsFrom cuts from (edge_at known k)

module _ (known : List DirectedEdge) where
  -- d is one of the first n edges, and picked
  pub record IsPickedBelow (IsPicked : ℕ → Type 0) (n : ℕ) (d : DirectedEdge) : Type 0 where
    pub place : ℕ
    pub inside : place < n
    pub picked : IsPicked place
    pub is : edge_at known place ≡ d

  -- of the first n edges those that are picked, ascending
  pub record ArePicked (IsPicked : ℕ → Type 0) (n : ℕ) (found : List DirectedEdge) : Type 0 where
    pub ascending : AllPairs IsDirectedBefore found
    pub sound : (d : DirectedEdge) → Contains found d → IsPickedBelow IsPicked n d
    pub each : (k : ℕ) → k < n → IsPicked k → Contains found (edge_at known k)

  module _ (IsPicked : ℕ → Type 0) where
    more : (n : ℕ) (d : DirectedEdge) → IsPickedBelow IsPicked n d → IsPickedBelow IsPicked (n + 1) d
    more n d h = record { place = h.place; inside = (let l = h.inside in omega arith); picked = h.picked; is = h.is }

    pub one_picked : AllPairs IsDirectedBefore known → (n : ℕ) (found : List DirectedEdge) → n < length known → IsPicked n
        → ArePicked IsPicked n found → ArePicked IsPicked (n + 1) (found ++ edge_at known n ∷ [])
    one_picked ascending n found inside picks h = record {
      ascending = all_pairs_push IsDirectedBefore found (edge_at known n) h.ascending
          (λ k d b. before (get_or found k d) (h.sound (get_or found k d) (Contains-get_or found k d b)));
      sound = λ d c. ⊎_elim (λ (l : Contains found d). more n d (h.sound d l)) (λ (e : edge_at known n ≡ d). last d e)
          (Contains-push_cases found (edge_at known n) d c);
      each = λ k b p. elim (cases_lt k n) [
        | inl l ↦ Contains-append_left found (edge_at known n ∷ []) (edge_at known k) (h.each k l p)
        | inr l ↦ (let s : n ≡ k = omega arith in
            let P : ℕ → Type 0 = λ t. Contains (found ++ edge_at known n ∷ []) (edge_at known t) in
            subst P s (Contains-push found (edge_at known n)))
      ];
    }
      where
        last : (d : DirectedEdge) → edge_at known n ≡ d → IsPickedBelow IsPicked (n + 1) d
        last d e = record { place = n; inside = omega arith; picked = picks; is = e }

        before : (d : DirectedEdge) → IsPickedBelow IsPicked n d → IsDirectedBefore d (edge_at known n)
        before d w = subst (λ (e : DirectedEdge). IsDirectedBefore e (edge_at known n)) w.is (ascending w.place n nothing w.inside inside)

    pub none_picked : (n : ℕ) (found : List DirectedEdge) → ¬ (IsPicked n) → ArePicked IsPicked n found → ArePicked IsPicked (n + 1) found
    none_picked n found left h = record {
      ascending = h.ascending;
      sound = λ d c. more n d (h.sound d c);
      each = λ k b p. elim (cases_lt k n) [
        | inl l ↦ h.each k l p
        | inr l ↦ (let s : k ≡ n = omega arith in absurd (left (subst IsPicked s p)))
      ];
    }

    pub picked_if : AllPairs IsDirectedBefore known → (n : ℕ) (old new : List DirectedEdge) → n < length known
        → IsAddedIf (IsPicked n) (edge_at known n) old new → ArePicked IsPicked n old → ArePicked IsPicked (n + 1) new
    picked_if ascending n old new inside (inl a) h = subst (ArePicked IsPicked (n + 1)) (sym a.1) (one_picked ascending n old inside a.0 h)
    picked_if ascending n old new inside (inr a) h = subst (ArePicked IsPicked (n + 1)) (sym a.1) (none_picked n old a.0 h)

    pub none_yet : ArePicked IsPicked 0 []
    none_yet = record {
      ascending = λ i j d o b. absurd (omega arith);
      sound = λ d c. absurd (let b = c.1 in omega arith);
      each = λ k b p. absurd (omega arith);
    }

    pub picked_in : (n : ℕ) (found : List DirectedEdge) → n ≡ length known → All (λ d. AreInLimit d.from d.to) known → ArePicked IsPicked n found
        → All (λ d. AreInLimit d.from d.to) found
    picked_in n found all in_limit h = All-weaker (Contains found) (λ d. AreInLimit d.from d.to)
        (λ d c. by_place d (h.sound d c)) found (All-contains_itself found)
      where
        by_place : (d : DirectedEdge) → IsPickedBelow IsPicked n d → AreInLimit d.from d.to
        by_place d w = let P : DirectedEdge → Type 0 = λ e. AreInLimit e.from e.to in
            subst P w.is (in_limit w.place nothing (let l = w.inside in omega (arith, l, all)))

  -- ---- those that are closed, and those that wait
  module _ (cuts : List ℤ) (from past : ℕ) (flags : List Bool) where
    pub picked_parted : TellOpen cuts from past known flags → (n : ℕ) (closed waiting : List DirectedEdge) → n ≡ length known
        → ArePicked (IsClosedAt flags) n closed → ArePicked (WaitsAt cuts from known flags) n waiting
        → AreParted cuts from past known closed waiting
    picked_parted told n closed waiting all c w = record {
      closed_ascends = c.ascending;
      closed_is = λ d. (λ h. closed_sound d (c.sound d h), λ h. closed_each d h.0 h.1);
      open_ascends = w.ascending;
      open_is = λ d. (λ h. waits_sound d (w.sound d h), λ h. waits_each d h.0 h.1 h.2);
    }
      where
        inside : (k : ℕ) → k < n → k < length known
        inside k h = omega (arith, all)

        stands : (k : ℕ) (d : DirectedEdge) → k < n → edge_at known k ≡ d → Contains known d
        stands k d h e = subst (Contains known) e (Contains-get_or known k nothing (inside k h))

        closed_sound : (d : DirectedEdge) → IsPickedBelow (IsClosedAt flags) n d → Contains known d × ¬ (IsOpen cuts from past known d)
        closed_sound d p = (
          stands p.place d p.inside p.is,
          λ o. (let opens = subst (IsOpen cuts from past known) (sym p.is) o in
              false≢true (sym p.picked ∙ (told.exact p.place false (inside p.place p.inside)).1 opens)),
        )

        by_flag : (b : Bool) → (b ≡ true → ⊥) → b ≡ false
        by_flag true h = absurd (h refl)
        by_flag false h = refl

        closed_each : (d : DirectedEdge) → Contains known d → ¬ (IsOpen cuts from past known d) → Contains closed d
        closed_each d (k, b, is) shut =
            let e : edge_at known k ≡ d = get_or_default known k nothing d b ∙ is in
            subst (Contains closed) e (c.each k (omega (arith, all, b)) (by_flag (slice_index_or flags k false)
            (λ t. shut (subst (IsOpen cuts from past known) e ((told.exact k false b).0 t)))))

        waits_sound : (d : DirectedEdge) → IsPickedBelow (WaitsAt cuts from known flags) n d
            → Contains known d × IsOpen cuts from past known d × BeginsFrom cuts from d
        waits_sound d p = (
          stands p.place d p.inside p.is,
          subst (IsOpen cuts from past known) p.is ((told.exact p.place false (inside p.place p.inside)).0 p.picked.0),
          subst (BeginsFrom cuts from) p.is p.picked.1,
        )

        waits_each : (d : DirectedEdge) → Contains known d → IsOpen cuts from past known d → BeginsFrom cuts from d → Contains waiting d
        waits_each d (k, b, is) open_there begins =
            let e : edge_at known k ≡ d = get_or_default known k nothing d b ∙ is in
            let opens = subst (IsOpen cuts from past known) (sym e) open_there in
            subst (Contains waiting) e (w.each k (omega (arith, all, b)) ((told.exact k false b).1 opens, subst (BeginsFrom cuts from) (sym e) begins))
