-- Links that are added one after another, each of them a tie.
use Rattle.std.proofs.Common.{◌≡◌, inl, inr, ℕ, ◌+◌, ◌<◌, ◌≤◌, true, false, List, [], ◌∷◌, ◌++◌, length, sym, subst, ap, ◌∙◌, arith, ⊎_elim}
use Rattle.std.specs.Prelude.{AllPairs, Contains, Some}
use Rattle.std.proofs.lemmas.Bool.{cases_eq, cases_lt, false≢true}
use Rattle.std.proofs.lemmas.List.Elements.{Contains-append_left, Contains-push, Contains-push_cases}
use Rattle.geom.specs.declared.directed.DirectedEdge.{DirectedEdge}
use Rattle.geom.specs.declared.point.Pt.{Pt}
use Rattle.geom.specs.Directed.{IsDirectedBefore}
use Rattle.geom.specs.Order.{IsBefore}
use Rattle.geom.proofs.Orders.{before_itself}
use Rattle.parts_law.specs.Bounds.{GoesRight}
use Rattle.polygonize.specs.Below.{IsEdgeBelow}
use Rattle.polygonize.specs.Clockwise.{less}
use Rattle.polygonize.specs.Next.{edge_at, nothing}
use Rattle.polygonize.proofs.NextEdge.Turns.{is_less, less_is}
use Rattle.strip_polygons.specs.declared.classes.Link.{Link}
use Rattle.strip_polygons.specs.Parting.{AddsTies, IsLinkedUpTo, IsTie, LinkFollowing, LinkLeaving, LinksLower, link}

-- the start of the edge at a place
abbrev pub start_at : List DirectedEdge → ℕ → Pt
start_at directed k = (edge_at directed k).from

module _ (directed : List DirectedEdge) where
  -- ---- one list of links after another
  pub none_added : (links : List Link) → AddsTies directed links links
  none_added links = record { kept = λ l h. h; sound = λ l h. inl h }

  pub one_added : (old mid : List Link) (l : Link) → IsTie directed l → AddsTies directed old mid → AddsTies directed old (mid ++ l ∷ [])
  one_added old mid l tie a = record {
    kept = λ m h. Contains-append_left mid (l ∷ []) m (a.kept m h);
    sound = λ m h. ⊎_elim (λ (c : Contains mid m). a.sound m c) (λ (e : l ≡ m). inr (subst (IsTie directed) e tie)) (Contains-push_cases mid l m h);
  }

  pub both_added : (old mid new : List Link) → AddsTies directed old mid → AddsTies directed mid new → AddsTies directed old new
  both_added old mid new a b = record {
    kept = λ l h. b.kept l (a.kept l h);
    sound = λ l h. ⊎_elim (λ (c : Contains mid l). a.sound l c) (λ (t : IsTie directed l). inr t) (b.sound l h);
  }

  -- ---- edges that leave one vertex
  same_start : (i k : ℕ) → i ≡ k → start_at directed i ≡ start_at directed k
  same_start i k e = ap (start_at directed) e

  -- ties are added, and those of the first n edges that leave one vertex are linked
  abbrev pub AddLeaving : List Link → ℕ → List Link → Type 0
  AddLeaving old n new = AddsTies directed old new × LinkLeaving directed n new

  pub leaving_linked : (old mid : List Link) (p n : ℕ) → p + 1 ≡ n → n < length directed → start_at directed p ≡ start_at directed n
      → AddLeaving old n mid → AddLeaving old (n + 1) (mid ++ link p n ∷ [])
  leaving_linked old mid p n next inside same h = (one_added old mid (link p n) tie h.0, linked)
    where
      tie : IsTie directed (link p n)
      tie = record { first_inside = omega arith; second_inside = inside; tied = inl same }

      linked : LinkLeaving directed (n + 1) (mid ++ link p n ∷ [])
      linked i below e = elim (cases_lt (i + 1) n) [
        | inl b ↦ Contains-append_left mid (link p n ∷ []) (link i (i + 1)) (h.1 i b e)
        | inr b ↦ (let s : p ≡ i = omega arith in
            let t : n ≡ i + 1 = omega arith in
            let P : ℕ → Type 0 = λ k. Contains (mid ++ link p n ∷ []) (link k n) in
            let Q : ℕ → Type 0 = λ k. Contains (mid ++ link p n ∷ []) (link i k) in
            subst Q t (subst P s (Contains-push mid (link p n))))
      ]

  pub leaving_apart : (old mid : List Link) (p n : ℕ) → p + 1 ≡ n → ¬ (start_at directed p ≡ start_at directed n)
      → AddLeaving old n mid → AddLeaving old (n + 1) mid
  leaving_apart old mid p n next apart h = (h.0, linked)
    where
      linked : LinkLeaving directed (n + 1) mid
      linked i below e = elim (cases_lt (i + 1) n) [
        | inl b ↦ h.1 i b e
        | inr b ↦ absurd (apart (same_start p i (omega arith) ∙ e ∙ same_start (i + 1) n (omega arith)))
      ]

  -- ---- edges that leave the ends of others
  -- ties are added, and each of the first n edges is linked to the first one that leaves its end
  abbrev pub AddFollowing : List Link → ℕ → List Link → Type 0
  AddFollowing old n new = AddsTies directed old new × LinkFollowing directed n new

  -- the edges before the place leave lesser vertices than v, and the others do not
  pub record IsFirstLeaving (v : Pt) (m : ℕ) : Type 0 where
    pub before : (k : ℕ) → k < m → less (start_at directed k) v ≡ true
    pub from : (k : ℕ) → m ≤ k → k < length directed → less (start_at directed k) v ≡ false

  not_before_first : (v : Pt) (m j : ℕ) → IsFirstLeaving v m → v ≡ start_at directed j → m ≤ j
  not_before_first v m j f e = elim (cases_lt j m) [
    | inl b ↦ absurd (before_itself v (subst (λ (t : Pt). IsBefore t v) (sym e) (less_is (start_at directed j) v (f.before j b))))
    | inr b ↦ b
  ]

  pub following_linked : (old mid : List Link) (n m : ℕ) → n < length directed → m < length directed → start_at directed m ≡ (edge_at directed n).to
      → IsFirstLeaving (edge_at directed n).to m → AddFollowing old n mid → AddFollowing old (n + 1) (mid ++ link n m ∷ [])
  following_linked old mid n m inside next same first h = (one_added old mid (link n m) tie h.0, linked)
    where
      tie : IsTie directed (link n m)
      tie = record { first_inside = inside; second_inside = next; tied = inr (inl (sym same)) }

      here : (j : ℕ) → j < length directed → (edge_at directed n).to ≡ start_at directed j → IsLinkedUpTo directed (mid ++ link n m ∷ []) n j
      here j below e = record {
        place = m;
        up_to = not_before_first (edge_at directed n).to m j first e;
        one_start = same ∙ e;
        linked = Contains-push mid (link n m);
      }

      further : (i j : ℕ) → IsLinkedUpTo directed mid i j → IsLinkedUpTo directed (mid ++ link n m ∷ []) i j
      further i j k = record {
        place = k.place;
        up_to = k.up_to;
        one_start = k.one_start;
        linked = Contains-append_left mid (link n m ∷ []) (link i k.place) k.linked;
      }

      linked : LinkFollowing directed (n + 1) (mid ++ link n m ∷ [])
      linked i j low high e = elim (cases_lt i n) [
        | inl b ↦ further i j (h.1 i j b high e)
        | inr b ↦ (let s : n ≡ i = omega arith in
            let P : ℕ → Type 0 = λ t. (edge_at directed t).to ≡ start_at directed j → IsLinkedUpTo directed (mid ++ link n m ∷ []) t j in
            subst P s (here j high) e)
      ]

  pub following_none : AllPairs IsDirectedBefore directed → (old mid : List Link) (n m : ℕ) → IsFirstLeaving (edge_at directed n).to m
      → ¬ ((m < length directed) × (start_at directed m ≡ (edge_at directed n).to))
      → AddFollowing old n mid → AddFollowing old (n + 1) mid
  following_none ascending old mid n m first none h = (h.0, linked)
    where
      earlier : (j : ℕ) → j < length directed → (edge_at directed n).to ≡ start_at directed j → m < j
          → IsDirectedBefore (edge_at directed m) (edge_at directed j) → ⊥
      earlier j below e b (inl l) =
          let less_end : IsBefore (start_at directed m) (edge_at directed n).to = subst (IsBefore (start_at directed m)) (sym e) l in
          false≢true (sym (first.from m (omega arith) (omega arith)) ∙ is_less (start_at directed m) (edge_at directed n).to less_end)
      earlier j below e b (inr l) = none (omega arith, l.0 ∙ sym e)

      nowhere : (j : ℕ) → j < length directed → (edge_at directed n).to ≡ start_at directed j → ⊥
      nowhere j below e = elim (cases_eq m j) [
        | inl s ↦ none (omega arith, same_start m j s ∙ sym e)
        | inr o ↦ (let low = not_before_first (edge_at directed n).to m j first e in
            earlier j below e (omega arith) (ascending m j nothing (omega arith) below))
      ]

      linked : LinkFollowing directed (n + 1) mid
      linked i j low high e = elim (cases_lt i n) [
        | inl b ↦ h.1 i j b high e
        | inr b ↦ (let s : i ≡ n = omega arith in
            absurd (nowhere j high (subst (λ (t : ℕ). (edge_at directed t).to ≡ start_at directed j) s e)))
      ]

  -- ---- edges below
  pub lower_linked : (links : List Link) (j k : ℕ) → j < length directed → GoesRight (edge_at directed j)
      → IsEdgeBelow directed (start_at directed j) (Some k) → GoesRight (edge_at directed k)
      → AddsTies directed links (links ++ link k j ∷ []) × LinksLower directed (links ++ link k j ∷ []) j
  lower_linked links j k inside upper below lower = (
    one_added links links (link k j) (record {
      first_inside = below.0;
      second_inside = inside;
      tied = inr (inr (record { lower_goes = lower; upper_goes = upper; nearest = below.1 }));
    }) (none_added links),
    inr (record { place = k; inside = below.0; nearest = below.1; linked = λ g. Contains-push links (link k j) }),
  )
