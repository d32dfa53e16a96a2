-- The classes of edges by their ties: an edge is open if one of its class goes over a border.
use Rattle.std.proofs.Common.{◌≡◌, ◌⊎◌, inl, inr, ℕ, ◌<◌, true, false, Bool, List, length, map, refl, sym, subst, ap, ◌∙◌, arith}
use Rattle.std.specs.Prelude.{◌↔◌, ℤ, Contains, slice_index, slice_index_or}
use Rattle.std.proofs.lemmas.List.{get_or-map, get_or_default, length-map}
use Rattle.std.proofs.lemmas.List.Elements.{All-contains, All-get_or, Contains-get_or}
use Rattle.geom.specs.declared.directed.DirectedEdge.{DirectedEdge}
use Rattle.parts_law.specs.Ties.{AreTied, GoesOver, IsOpen}
use Rattle.parts_law.specs.Ties.LeadsTo.{here, on}
use Rattle.polygonize.specs.Next.{edge_at, nothing}
use Rattle.strip_polygons.specs.declared.classes.Link.{Link}
use Rattle.strip_polygons.specs.Classes.{AreChained, AreRoots, none, step}
use Rattle.strip_polygons.specs.Parting.{AreOpenRoots, AreTies, HasOver, TellOpen}
use Rattle.strip_polygons.proofs.ClassesLinked.{chained_back, chained_on}

module _ (cuts : List ℤ) (from past : ℕ) (known : List DirectedEdge) (links : List Link) (ties : AreTies known links) where
  -- the edge at the place is open
  abbrev OpensAt : ℕ → Type 0
  OpensAt i = IsOpen cuts from past known (edge_at known i)

  -- ---- chains of links are ties that lead on
  leads_step : (i k : ℕ) (l : Link) → Contains links l → ((l.first ≡ i) × (l.second ≡ k)) ⊎ ((l.first ≡ k) × (l.second ≡ i)) → i < length known
      → (k < length known → OpensAt k) → OpensAt i
  leads_step i k l c ends inside further = by_end ends
    where
      both : (l.first < length known) × (l.second < length known)
      both = All-contains (λ m. (m.first < length known) × (m.second < length known)) links l ties.inside c

      tied : AreTied known (edge_at known l.first) (edge_at known l.second)
      tied = All-contains (λ m. AreTied known (edge_at known m.first) (edge_at known m.second)) links l ties.sound c

      by_end : ((l.first ≡ i) × (l.second ≡ k)) ⊎ ((l.first ≡ k) × (l.second ≡ i)) → OpensAt i
      by_end (inl e) = on (Contains-get_or known i nothing inside)
          (inl (subst (λ (m : ℕ). AreTied known (edge_at known i) (edge_at known m)) e.1
          (subst (λ (m : ℕ). AreTied known (edge_at known m) (edge_at known l.second)) e.0 tied)))
          (further (subst (λ (m : ℕ). m < length known) e.1 both.1))
      by_end (inr e) = on (Contains-get_or known i nothing inside)
          (inr (subst (λ (m : ℕ). AreTied known (edge_at known m) (edge_at known i)) e.0
          (subst (λ (m : ℕ). AreTied known (edge_at known l.first) (edge_at known m)) e.1 tied)))
          (further (subst (λ (m : ℕ). m < length known) e.0 both.0))

  leads_back : (i j : ℕ) → AreChained links i j → i < length known → OpensAt j → OpensAt i
  leads_back i _ none inside h = h
  leads_back i j (step {j = k} l c ends rest) inside h = leads_step i k l c ends inside (λ b. leads_back k j rest b h)

  -- ---- and ties that lead on are chains of links
  -- links lead from the edge at i to one that goes over a border
  record HasChain (i : ℕ) : Type 0 where
    place : ℕ
    inside : place < length known
    chained : AreChained links i place
    over : GoesOver cuts from past (edge_at known place)

  -- where an edge stands
  record HasPlace (d : DirectedEdge) : Type 0 where
    place : ℕ
    inside : place < length known
    is : edge_at known place ≡ d

  place_of : (d : DirectedEdge) → Contains known d → HasPlace d
  place_of d (k, b, e) = record { place = k; inside = b; is = get_or_default known k nothing d b ∙ e }

  stands : (d : DirectedEdge) → IsOpen cuts from past known d → Contains known d
  stands d (here c g) = c
  stands d (on c t rest) = c

  tied_chained : (i k : ℕ) (d e : DirectedEdge) → i < length known → k < length known → edge_at known i ≡ d → edge_at known k ≡ e
      → AreTied known d e ⊎ AreTied known e d → AreChained links i k
  tied_chained i k d e low high first second (inl t) = ties.complete i k low high
      (subst (λ (f : DirectedEdge). AreTied known f (edge_at known k)) (sym first) (subst (λ (f : DirectedEdge). AreTied known d f) (sym second) t))
  tied_chained i k d e low high first second (inr t) = chained_back links k i (ties.complete k i high low
      (subst (λ (f : DirectedEdge). AreTied known f (edge_at known i)) (sym second) (subst (λ (f : DirectedEdge). AreTied known e f) (sym first) t)))

  chain_after : (i k : ℕ) → AreChained links i k → HasChain k → HasChain i
  chain_after i k c h = record { place = h.place; inside = h.inside; chained = chained_on links i k h.place c h.chained; over = h.over }

  chain_of : {d : DirectedEdge} → IsOpen cuts from past known d → (i : ℕ) → i < length known → edge_at known i ≡ d → HasChain i
  chain_of (here c g) i inside e = record { place = i; inside = inside; chained = none; over = subst (GoesOver cuts from past) (sym e) g }
  chain_of {d} (on {e = f} c tied rest) i inside e =
      let p = place_of f (stands f rest) in
      chain_after i p.place (tied_chained i p.place d f inside p.inside e p.is tied) (chain_of rest p.place p.inside p.is)

  -- ---- classes
  module _ (roots : List ℕ) (are : AreRoots (length known) links roots) where
    link_root : (i k : ℕ) (l : Link) → Contains links l → ((l.first ≡ i) × (l.second ≡ k)) ⊎ ((l.first ≡ k) × (l.second ≡ i))
        → slice_index roots i ≡ slice_index roots k
    link_root i k l c ends = by_end ends
      where
        same : slice_index roots l.first ≡ slice_index roots l.second
        same = All-contains (λ m. slice_index roots m.first ≡ slice_index roots m.second) links l are.linked c

        by_end : ((l.first ≡ i) × (l.second ≡ k)) ⊎ ((l.first ≡ k) × (l.second ≡ i)) → slice_index roots i ≡ slice_index roots k
        by_end (inl e) = ap (slice_index roots) (sym e.0) ∙ same ∙ ap (slice_index roots) e.1
        by_end (inr e) = ap (slice_index roots) (sym e.1) ∙ sym same ∙ ap (slice_index roots) e.0

    one_root : (i j : ℕ) → AreChained links i j → slice_index roots i ≡ slice_index roots j
    one_root i _ none = refl
    one_root i j (step {j = k} l c ends rest) = link_root i k l c ends ∙ one_root k j rest

    one_class : (i j : ℕ) → i < length known → j < length known → slice_index roots i ≡ slice_index roots j → AreChained links i j
    one_class i j low high e = chained_on links i (slice_index roots i) j (are.chained i low)
        (chained_back links j (slice_index roots i) (subst (AreChained links j) (sym e) (are.chained j high)))

    module _ (flags : List Bool) (open_roots : AreOpenRoots cuts from past known roots (length known) flags) where
      told_open : (i : ℕ) → i < length known → (slice_index_or flags (slice_index roots i) false ≡ true) ↔ OpensAt i
      told_open i inside = (
        λ t. opens ((open_roots.exact (slice_index roots i) there).0 t),
        λ o. (open_roots.exact (slice_index roots i) there).1
            (over (chain_of o i inside refl)),
      )
        where
          there : slice_index roots i < length known
          there = All-get_or (λ r. r < length known) roots i 0 (let e = are.same_length in omega (arith, e, inside)) are.inside

          opens : HasOver cuts from past known roots (length known) (slice_index roots i) → OpensAt i
          opens h = leads_back i h.place (one_class i h.place inside h.inside (sym h.root)) inside
              (here (Contains-get_or known h.place nothing h.inside) h.over)

          over : HasChain i → HasOver cuts from past known roots (length known) (slice_index roots i)
          over h = record { place = h.place; inside = h.inside; root = sym (one_root i h.place h.chained); over = h.over }

      pub classes_tell : TellOpen cuts from past known (map (λ r. slice_index_or flags r false) roots)
      classes_tell = record {
        same_length = length-map roots (λ r. slice_index_or flags r false) ∙ are.same_length;
        exact = λ i b inside. (let P : Bool → Type 0 = λ t. (t ≡ true) ↔ OpensAt i in
            let e = are.same_length in
            subst P (sym (get_or-map (λ r. slice_index_or flags r false) roots i 0 b (omega (arith, e, inside)))) (told_open i inside));
      }
