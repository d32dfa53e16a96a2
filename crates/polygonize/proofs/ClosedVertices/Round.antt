-- At a vertex, the edges close exactly where their ends, sorted round it, go on: no two in one direction, and one that leaves behind each
-- one that arrives.
use Rattle.std.proofs.Common.{◌≡◌, ◌≢◌, ◌⊎◌, ℕ, ◌+◌, ◌<◌, ◌≤◌, Bool, true, false, List, length, get_or, sym, ◌∙◌, ap, subst, inl, inr, arith}
use Rattle.std.specs.Prelude.{AllPairs, Contains, nat_lt}
use Rattle.std.proofs.lemmas.Bool.{cases_eq, cases_lt, cond-false, cond-true, false≢true, le-ltb, lt-ltb}
use Rattle.std.proofs.lemmas.List.{get_or_default}
use Rattle.std.proofs.lemmas.List.Elements.{Contains-get_or}
use Rattle.std.proofs.lemmas.List.Sorted.{sorted_far}
use Rattle.geom.specs.declared.point.Pt.{Pt}
use Rattle.geom.specs.declared.directed.DirectedEdge.{DirectedEdge}
use Rattle.geom.specs.Directed.{IsDirectedBefore, from_to}
use Rattle.geom.specs.Rings.{IsMetBefore, IsNeighbour, IsNext, IsSooner}
use Rattle.polygonize.specs.declared.closing.EdgeEnd.{EdgeEnd}
use Rattle.polygonize.specs.Clockwise.{sooner}
use Rattle.polygonize.specs.Closing.{AreSortedEnds, ClosesAt, GoesOn, IsArriving, IsStarting, is_sooner_end, next_round}
use Rattle.polygonize.specs.Next.{nothing, edge_at}
use Rattle.polygonize.proofs.ClosedVertices.Ends.{ends_order}
use Rattle.polygonize.proofs.NextEdge.RoundVertex.{at_one, not_at_one}
use Rattle.polygonize.proofs.NextEdge.Sooner.{by_test, is_met, is_not_met, is_sooner, one_place, sooner_is}
use Rattle.polygonize.proofs.NextEdge.Turns.{one_way}

-- the ends at v stand from one place to before another one
pub record IsRound (ends : List EdgeEnd) (v : Pt) (from past : ℕ) : Type 0 where
  pub inside : past ≤ length ends
  pub at : (k : ℕ) (d : EdgeEnd) → from ≤ k → k < past → (get_or ends k d).way.at ≡ v
  pub only : (k : ℕ) (d : EdgeEnd) → k < length ends → (get_or ends k d).way.at ≡ v → (from ≤ k) × (k < past)

-- one of the places
record In (from past k : ℕ) : Type 0 where
  pub low : from ≤ k
  pub high : k < past

-- an end of an edge at such a place: one that leaves for w, or arrives from there
record Standing (ends : List EdgeEnd) (d : EdgeEnd) (from past : ℕ) (w : Pt) (leaves : Bool) : Type 0 where
  pub place : ℕ
  pub in_round : In from past place
  pub end_is : (get_or ends place d).way.end ≡ w
  pub leaves_is : (get_or ends place d).leaves ≡ leaves

round_more : (from past k : ℕ) → k + 1 < past → next_round from past k ≡ k + 1
round_more from past k h = cond-true (nat_lt (k + 1) past) (k + 1) from (lt-ltb (k + 1) past h)

round_first : (from past k : ℕ) → past ≤ k + 1 → next_round from past k ≡ from
round_first from past k h = cond-false (nat_lt (k + 1) past) (k + 1) from (le-ltb (k + 1) past h)

module _ (ds : List DirectedEdge) (ends : List EdgeEnd) (up : AllPairs IsDirectedBefore ds) (all : AreSortedEnds ds ends) (v : Pt) (from past : ℕ) (round : IsRound ends v from past) (d : EdgeEnd) where
  abbrev e : ℕ → EdgeEnd
  e k = get_or ends k d

  abbrev p : ℕ → Pt
  p k = (e k).way.end

  within : (k : ℕ) → In from past k → k < length ends
  within k i = let a = i.high in let b = round.inside in omega (arith, a, b)

  at_v : (k : ℕ) → In from past k → (e k).way.at ≡ v
  at_v k i = round.at k d i.low i.high

  -- ---- ends and edges
  edge_in : (k : ℕ) → In from past k → Contains ds (edge_at ds (e k).way.place)
  edge_in k i = Contains-get_or ds (e k).way.place nothing (all.both.inside k d (within k i))

  starting : (k : ℕ) → In from past k → (e k).leaves ≡ true → IsStarting (edge_at ds (e k).way.place) (e k).way.place (e k)
  starting k i h = elim (all.both.genuine k d (within k i)) [ inl s ↦ s | inr a ↦ absurd (false≢true (sym a.leaves_is ∙ h)) ]

  arriving : (k : ℕ) → In from past k → (e k).leaves ≡ false → IsArriving (edge_at ds (e k).way.place) (e k).way.place (e k)
  arriving k i h = elim (all.both.genuine k d (within k i)) [ inl s ↦ absurd (false≢true (sym h ∙ s.leaves_is)) | inr a ↦ a ]

  leaving_is : (k : ℕ) → In from past k → (e k).leaves ≡ true → edge_at ds (e k).way.place ≡ from_to v (p k)
  leaving_is k i h = let s = starting k i h in λ j. record { from = (sym s.at_is ∙ at_v k i) j; to = (sym s.end_is) j }

  arriving_is : (k : ℕ) → In from past k → (e k).leaves ≡ false → edge_at ds (e k).way.place ≡ from_to (p k) v
  arriving_is k i h = let s = arriving k i h in λ j. record { from = (sym s.end_is) j; to = (sym s.at_is ∙ at_v k i) j }

  leaves_v : (k : ℕ) → In from past k → (e k).leaves ≡ true → Contains ds (from_to v (p k))
  leaves_v k i h = let P : DirectedEdge → Type 0 = Contains ds in subst P (leaving_is k i h) (edge_in k i)

  arrives_at_v : (k : ℕ) → In from past k → (e k).leaves ≡ false → Contains ds (from_to (p k) v)
  arrives_at_v k i h = let P : DirectedEdge → Type 0 = Contains ds in subst P (arriving_is k i h) (edge_in k i)

  neighbour : (k : ℕ) → In from past k → IsNeighbour ds v (p k)
  neighbour k i = by_test (e k).leaves (λ h. inl (leaves_v k i h)) (λ h. inr (arrives_at_v k i h))

  stands : (w : Pt) (leaves : Bool) (s : EdgeEnd) → Contains ends s → s.way.at ≡ v → s.way.end ≡ w → s.leaves ≡ leaves → Standing ends d from past w leaves
  stands w leaves s c at end l = record {
    place = c.0;
    in_round = let r = round.only c.0 d c.1 (ap (λ t. t.way.at) is ∙ at) in record { low = r.0; high = r.1 };
    end_is = ap (λ t. t.way.end) is ∙ end;
    leaves_is = ap (λ t. t.leaves) is ∙ l;
  }
    where
      is : e c.0 ≡ s
      is = get_or_default ends c.0 d s c.1 ∙ c.2

  leaving_to : (w : Pt) → Contains ds (from_to v w) → Standing ends d from past w true
  leaving_to w c = stands w true s.0 s.1 (s.2.at_is ∙ ap (λ t. t.from) is) (s.2.end_is ∙ ap (λ t. t.to) is) s.2.leaves_is
    where
      s : (s : EdgeEnd) × Contains ends s × IsStarting (edge_at ds c.0) c.0 s
      s = all.both.starts c.0 c.1

      is : edge_at ds c.0 ≡ from_to v w
      is = get_or_default ds c.0 nothing (from_to v w) c.1 ∙ c.2

  arriving_from : (u : Pt) → Contains ds (from_to u v) → Standing ends d from past u false
  arriving_from u c = stands u false s.0 s.1 (s.2.at_is ∙ ap (λ t. t.to) is) (s.2.end_is ∙ ap (λ t. t.from) is) s.2.leaves_is
    where
      s : (s : EdgeEnd) × Contains ends s × IsArriving (edge_at ds c.0) c.0 s
      s = all.both.arrives c.0 c.1

      is : edge_at ds c.0 ≡ from_to u v
      is = get_or_default ds c.0 nothing (from_to u v) c.1 ∙ c.2

  standing : (a : Pt) → IsNeighbour ds v a → (leaves : Bool) × Standing ends d from past a leaves
  standing a (inl c) = (true, leaving_to a c)
  standing a (inr c) = (false, arriving_from a c)

  apart : (i j : ℕ) → (e i).leaves ≡ true → (e j).leaves ≡ false → i ≢ j
  apart i j h k f = false≢true (sym k ∙ ap (λ t. (e t).leaves) (sym f) ∙ h)

  next_in : (k : ℕ) → In from past k → In from past (next_round from past k)
  next_in k i = elim (cases_lt (k + 1) past) [
    | inl h ↦ (let P : ℕ → Type 0 = In from past in subst P (sym (round_more from past k h)) (let l = i.low in record { low = omega (arith, l); high = h }))
    | inr h ↦ (let P : ℕ → Type 0 = In from past in subst P (sym (round_first from past k h)) (let l = i.low in let m = i.high in record { low = omega arith; high = omega (arith, l, m) }))
  ]

  -- ---- where each lies in another direction than the one behind it
  module _ (step : (k : ℕ) → from ≤ k → k + 1 < past → is_sooner_end (e k) (e (k + 1)) ≡ true) where
    far : (i j : ℕ) → In from past i → In from past j → i < j → is_sooner_end (e i) (e j) ≡ true
    far i j x y l = by_test (is_sooner_end (e i) (e j)) (λ t. t) (λ f. absurd (false≢true (
        sym (ends_order.chain (e i) (e j) (e (i + 1)) f (sorted_far is_sooner_end ends_order ends all.sorted (i + 1) j d (omega arith) (within j y))) ∙ step i x.low (let h = y.high in omega (arith, l, h)))))

    sooner_in : (i j : ℕ) → In from past i → In from past j → i < j → sooner v (p i) (p j) ≡ true
    sooner_in i j x y l = let P : Pt → Type 0 = λ t. sooner t (p i) (p j) ≡ true in subst P (at_v j y) (at_one (e i).way (e j).way (at_v i x ∙ sym (at_v j y)) (far i j x y l))

    no_sooner : (i j : ℕ) → In from past i → In from past j → p i ≡ p j → i < j → ⊥
    no_sooner i j x y f l = let h : sooner v (p j) (p j) ≡ true = (let P : Pt → Type 0 = λ t. sooner v t (p j) ≡ true in subst P f (sooner_in i j x y l)) in false≢true (sym (one_way v (p j) (p j) h) ∙ h)

    same_end : (i j : ℕ) → In from past i → In from past j → p i ≡ p j → i ≡ j
    same_end i j x y f = elim (cases_lt i j) [
      | inl l ↦ absurd (no_sooner i j x y f l)
      | inr m ↦ elim (cases_lt j i) [ inl l ↦ absurd (no_sooner j i y x (sym f) l) | inr n ↦ omega arith ]
    ]

    module _ (proper : (k : ℕ) → In from past k → v ≢ p k) where
      in_turn : (i j : ℕ) → In from past i → In from past j → i < j → IsSooner v (p i) (p j)
      in_turn i j x y l = sooner_is v (p i) (p j) (proper i x) (proper j y) (sooner_in i j x y l)

      -- of three places round the vertex the next one comes first
      met_next : (i j : ℕ) → In from past i → In from past j → j ≢ i → next_round from past i ≢ i → j ≢ next_round from past i → IsMetBefore v (p i) (p (next_round from past i)) (p j)
      met_next i j x y other m o = elim (cases_lt (i + 1) past) [
        | inl h ↦ (let P : ℕ → Type 0 = λ n. IsMetBefore v (p i) (p n) (p j) in subst P (sym (round_more from past i h)) (behind h))
        | inr h ↦ (let P : ℕ → Type 0 = λ n. IsMetBefore v (p i) (p n) (p j) in subst P (sym (round_first from past i h)) (before h))
      ]
        where
          low_x : from ≤ i
          low_x = x.low

          low_y : from ≤ j
          low_y = y.low

          high_x : i < past
          high_x = x.high

          high_y : j < past
          high_y = y.high

          behind : i + 1 < past → IsMetBefore v (p i) (p (i + 1)) (p j)
          behind h = elim (cases_lt j i) [
            | inl l ↦ inr (inr (in_turn j i y x l, in_turn i (i + 1) x z (omega arith)))
            | inr l ↦ inl (in_turn i (i + 1) x z (omega arith), in_turn (i + 1) j z y (let n : j ≢ i + 1 = (λ f. o (f ∙ sym (round_more from past i h))) in past_both l n))
          ]
            where
              z : In from past (i + 1)
              z = record { low = omega (arith, low_x); high = h }

              past_both : i ≤ j → j ≢ i + 1 → i + 1 < j
              past_both l n = elim (cases_eq j i) [ inl f ↦ absurd (other f) | inr f ↦ omega (arith, l, n, f) ]

          before : past ≤ i + 1 → IsMetBefore v (p i) (p from) (p j)
          before h = inr (inl (in_turn from j z y (let n : j ≢ from = (λ f. o (f ∙ sym (round_first from past i h))) in omega (arith, low_y, n)), in_turn j i y x (let n : j ≢ i = other in omega (arith, h, high_y, n))))
            where
              z : In from past from
              z = record { low = omega arith; high = omega (arith, low_x, high_x) }

  -- ---- where they go on, the edges close
  module _ (goes : (k : ℕ) → from ≤ k → k < past → GoesOn ends from past k) where
    step : (k : ℕ) → from ≤ k → k + 1 < past → is_sooner_end (e k) (e (k + 1)) ≡ true
    step k l h = (goes k l (omega arith)).apart d d h

    not_back : (u : Pt) → Contains ds (from_to u v) → ¬ (Contains ds (from_to v u))
    not_back u c b = let a = arriving_from u c in let l = leaving_to u b in apart l.place a.place l.leaves_is a.leaves_is (same_end step l.place a.place l.in_round a.in_round (l.end_is ∙ sym a.end_is))

    proper : (a : Pt) → IsNeighbour ds v a → v ≢ a
    proper a n f = elim n [
      | inl c ↦ (let h : Contains ds (from_to v v) = (let P : Pt → Type 0 = λ t. Contains ds (from_to v t) in subst P (sym f) c) in not_back v h h)
      | inr c ↦ (let h : Contains ds (from_to v v) = (let P : Pt → Type 0 = λ t. Contains ds (from_to t v) in subst P (sym f) c) in not_back v h h)
    ]

    proper_in : (k : ℕ) → In from past k → v ≢ p k
    proper_in k i = proper (p k) (neighbour k i)

    spread : (a b : Pt) → IsNeighbour ds v a → IsNeighbour ds v b → a ≢ b → IsSooner v a b ⊎ IsSooner v b a
    spread a b m n o = elim (cases_lt i j) [
      | inl l ↦ inl (told i j a b x.in_round y.in_round x.end_is y.end_is l)
      | inr l ↦ inr (told j i b a y.in_round x.in_round y.end_is x.end_is (let f : i ≢ j = (λ g. o (sym x.end_is ∙ ap p g ∙ y.end_is)) in omega (arith, l, f)))
    ]
      where
        x : Standing ends d from past a (standing a m).0
        x = (standing a m).1

        y : Standing ends d from past b (standing b n).0
        y = (standing b n).1

        i : ℕ
        i = x.place

        j : ℕ
        j = y.place

        told : (i j : ℕ) (a b : Pt) → In from past i → In from past j → p i ≡ a → p j ≡ b → i < j → IsSooner v a b
        told i j a b x y f g l = let P : Pt → Type 0 = λ t. IsSooner v t b in subst P f (let Q : Pt → Type 0 = λ t. IsSooner v (p i) t in subst Q g (in_turn step proper_in i j x y l))

    turns : (u : Pt) → Contains ds (from_to u v) → (w : Pt) × Contains ds (from_to v w) × IsNext ds u v w
    turns u c = (
      p n,
      leaves_v n n_in n_leaves,
      record {
        near = inl (leaves_v n n_in n_leaves);
        other = λ f. unlike (same_end step n i n_in a.in_round (f ∙ sym a.end_is));
        first = first;
      },
    )
      where
        a : Standing ends d from past u false
        a = arriving_from u c

        i : ℕ
        i = a.place

        n : ℕ
        n = next_round from past i

        n_in : In from past n
        n_in = next_in i a.in_round

        n_leaves : (e n).leaves ≡ true
        n_leaves = (goes i a.in_round.low a.in_round.high).turns d d a.leaves_is

        unlike : n ≢ i
        unlike = apart n i n_leaves a.leaves_is

        first : (b : Pt) → IsNeighbour ds v b → b ≢ u → b ≢ p n → IsMetBefore v u (p n) b
        first b m x y = let s = (standing b m).1 in let P : Pt → Type 0 = λ t. IsMetBefore v t (p n) b in subst P a.end_is (let Q : Pt → Type 0 = λ t. IsMetBefore v (p i) (p n) t in subst Q s.end_is
            (met_next step proper_in i s.place a.in_round s.in_round (λ f. x (sym s.end_is ∙ ap p f ∙ a.end_is)) unlike (λ f. y (sym s.end_is ∙ ap p f))))

    pub closes : ClosesAt ds v
    closes = record { one_way = not_back; spread = spread; turns = turns }

  -- ---- where the edges close, they go on
  module _ (c : ClosesAt ds v) where
    proper_at : (k : ℕ) → In from past k → v ≢ p k
    proper_at k i f = elim (neighbour k i) [
      | inl m ↦ (let h : Contains ds (from_to v v) = (let P : Pt → Type 0 = λ t. Contains ds (from_to v t) in subst P (sym f) m) in c.one_way v h h)
      | inr m ↦ (let h : Contains ds (from_to v v) = (let P : Pt → Type 0 = λ t. Contains ds (from_to t v) in subst P (sym f) m) in c.one_way v h h)
    ]

    -- an edge leaves v for the place from where another one doesn't arrive
    two_ways : (i j : ℕ) → In from past i → In from past j → p i ≡ p j → (e i).leaves ≡ true → (e j).leaves ≡ false → ⊥
    two_ways i j x y f h k = c.one_way (p j) (arrives_at_v j y k) (let P : Pt → Type 0 = λ t. Contains ds (from_to v t) in subst P f (leaves_v i x h))

    one_edge : (i j : ℕ) → In from past i → In from past j → i < j → edge_at ds (e i).way.place ≡ edge_at ds (e j).way.place → (e i).leaves ≡ (e j).leaves → ⊥
    one_edge i j x y l f g = all.both.once i j d l (within j y) (one_place ds up (e i).way.place (e j).way.place (all.both.inside i d (within i x)) (all.both.inside j d (within j y)) f) g

    ends_differ : (i j : ℕ) → In from past i → In from past j → i < j → p i ≢ p j
    ends_differ i j x y l f = by_test (e i).leaves
        (λ h. by_test (e j).leaves
        (λ k. one_edge i j x y l (leaving_is i x h ∙ ap (λ t. from_to v t) f ∙ sym (leaving_is j y k)) (h ∙ sym k))
        (λ k. two_ways i j x y f h k))
        (λ h. by_test (e j).leaves
        (λ k. two_ways j i y x (sym f) k h)
        (λ k. one_edge i j x y l (arriving_is i x h ∙ ap (λ t. from_to t v) f ∙ sym (arriving_is j y k)) (h ∙ sym k)))

    unsooner : (i j : ℕ) → In from past i → In from past j → is_sooner_end (e i) (e j) ≡ false → sooner v (p i) (p j) ≡ false
    unsooner i j x y h = let P : Pt → Type 0 = λ t. sooner t (p i) (p j) ≡ false in subst P (at_v j y) (not_at_one (e i).way (e j).way (at_v i x ∙ sym (at_v j y)) h)

    step_at : (k : ℕ) → from ≤ k → k + 1 < past → is_sooner_end (e k) (e (k + 1)) ≡ true
    step_at k l h = by_test (is_sooner_end (e k) (e (k + 1))) (λ t. t) (λ f. absurd (never f))
      where
        x : In from past k
        x = record { low = l; high = omega arith }

        y : In from past (k + 1)
        y = record { low = omega arith; high = h }

        never : is_sooner_end (e k) (e (k + 1)) ≡ false → ⊥
        never f = elim (c.spread (p k) (p (k + 1)) (neighbour k x) (neighbour (k + 1) y) (ends_differ k (k + 1) x y (omega arith))) [
          | inl s ↦ false≢true (sym (unsooner k (k + 1) x y f) ∙ is_sooner v (p k) (p (k + 1)) s)
          | inr s ↦ false≢true (sym (unsooner (k + 1) k y x (sorted_far is_sooner_end ends_order ends all.sorted k (k + 1) d (omega arith) (within (k + 1) y))) ∙ is_sooner v (p (k + 1)) (p k) s)
        ]

    turns_at : (i : ℕ) → In from past i → (e i).leaves ≡ false → (e (next_round from past i)).leaves ≡ true
    turns_at i x h = by_test (e n).leaves (λ t. t) (λ f. absurd (never f))
      where
        n : ℕ
        n = next_round from past i

        z : In from past n
        z = next_in i x

        turn : (w : Pt) × Contains ds (from_to v w) × IsNext ds (p i) v w
        turn = c.turns (p i) (arrives_at_v i x h)

        s : Standing ends d from past turn.0 true
        s = leaving_to turn.0 turn.1

        j : ℕ
        j = s.place

        j_other : j ≢ i
        j_other = apart j i s.leaves_is h

        n_other : n ≢ i
        n_other f = elim (cases_lt (i + 1) past) [
          | inl l ↦ (let g = round_more from past i l in omega (arith, f, g))
          | inr l ↦ (let g = round_first from past i l in let a = s.in_round.low in let b = s.in_round.high in let o : j ≢ i = j_other in omega (arith, f, g, l, a, b, o))
        ]

        unlike : (k l : ℕ) → In from past k → In from past l → k ≢ l → p k ≢ p l
        unlike k l y w o f = elim (cases_lt k l) [ inl m ↦ ends_differ k l y w m f | inr m ↦ ends_differ l k w y (omega (arith, m, o)) (sym f) ]

        never : (e n).leaves ≡ false → ⊥
        never f = false≢true (sym (is_not_met v (p i) (p j) (p n) (met_next step_at proper_at i j x s.in_round j_other n_other j_next)) ∙ is_met v (p i) (p j) (p n) later)
          where
            j_next : j ≢ n
            j_next = apart j n s.leaves_is f

            later : IsMetBefore v (p i) (p j) (p n)
            later = let P : Pt → Type 0 = λ t. IsMetBefore v (p i) t (p n) in subst P (sym s.end_is)
                (turn.2.first (p n) (neighbour n z) (unlike n i z x n_other) (λ g. unlike n j z s.in_round (λ o. j_next (sym o)) (g ∙ sym s.end_is)))

    pub goes_on : (k : ℕ) → from ≤ k → k < past → GoesOn ends from past k
    goes_on k l h = record {
      apart = λ s t m. (let P : EdgeEnd → Type 0 = λ r. is_sooner_end r (get_or ends (k + 1) t) ≡ true in subst P (get_or_default ends k d s (within k x))
          (let Q : EdgeEnd → Type 0 = λ r. is_sooner_end (e k) r ≡ true in subst Q (get_or_default ends (k + 1) d t (let b = round.inside in omega (arith, m, b))) (step_at k l m)));
      turns = λ s t f. (let n = next_round from past k in let P : EdgeEnd → Type 0 = λ r. r.leaves ≡ true in subst P (get_or_default ends n d t (within n (next_in k x)))
          (turns_at k x (ap (λ r. r.leaves) (get_or_default ends k d s (within k x)) ∙ f)));
    }
      where
        x : In from past k
        x = record { low = l; high = h }
