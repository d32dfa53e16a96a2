-- The first edge at a vertex where the edges don't close, vertex by vertex; and where they close at each vertex, they close.
use Rattle.std.proofs.Common.{◌≡◌, ◌≢◌, ◌⊎◌, ℕ, ◌<◌, ◌≤◌, false, List, length, get_or, refl, sym, ◌∙◌, ap, subst, inl, inr, arith}
use Rattle.std.specs.Prelude.{AllPairs, Contains, MatchOption, None, Option, Some, nat_lt}
use Rattle.std.proofs.lemmas.Bool.{cases_lt, cond-false, cond-true, le-ltb, lt-ltb}
use Rattle.std.proofs.lemmas.List.{get_or_default}
use Rattle.std.proofs.lemmas.List.Sorted.{sorted_far}
use Rattle.geom.specs.declared.point.Pt.{Pt}
use Rattle.geom.specs.declared.directed.DirectedEdge.{DirectedEdge}
use Rattle.geom.specs.Directed.{IsDirectedBefore, from_to}
use Rattle.geom.specs.Rings.{Closes, IsNeighbour}
use Rattle.polygonize.specs.declared.closing.EdgeEnd.{EdgeEnd}
use Rattle.polygonize.specs.Clockwise.{less, sooner}
use Rattle.polygonize.specs.Closing.{AreSortedEnds, ClosesAt, ClosesAtEnds, GoesOn, IsArriving, IsFirstOpen, IsLeastPlace, IsPastVertex, IsStarting, is_sooner_end, lesser}
use Rattle.polygonize.specs.Next.{nothing, edge_at}
use Rattle.polygonize.proofs.ClosedVertices.Ends.{ends_order}
use Rattle.polygonize.proofs.ClosedVertices.Going.{some_end}
use Rattle.polygonize.proofs.ClosedVertices.Round.{IsRound, closes, goes_on}
use Rattle.polygonize.proofs.NextEdge.Sooner.{parts}
use Rattle.polygonize.proofs.NextEdge.Turns.{neither_less}

abbrev at_end : List EdgeEnd → ℕ → EdgeEnd → Pt
at_end ends k d = (get_or ends k d).way.at

-- of the ends before a place, that of the edge at this place is at a vertex where the edges don't close, and no such edge has a lesser place
pub record IsLeastOpen (ds : List DirectedEdge) (ends : List EdgeEnd) (from place : ℕ) : Type 0 where
  pub end : (k : ℕ) × (k < from) × ((d : EdgeEnd) → ((get_or ends k d).way.place ≡ place) × ¬ (ClosesAt ds (at_end ends k d)))
  pub least : (k : ℕ) (d : EdgeEnd) → k < from → ClosesAt ds (at_end ends k d) ⊎ (place ≤ (get_or ends k d).way.place)

-- what was found among them
abbrev pub AreTold : List DirectedEdge → List EdgeEnd → ℕ → Option ℕ → Type 0
AreTold ds ends from None = (k : ℕ) (d : EdgeEnd) → k < from → ClosesAt ds (at_end ends k d)
AreTold ds ends from (Some place) = IsLeastOpen ds ends from place

-- those before the place are at other vertices than the others
pub record Seen (ds : List DirectedEdge) (ends : List EdgeEnd) (from : ℕ) (found : Option ℕ) : Type 0 where
  pub other : (i j : ℕ) (d : EdgeEnd) → i < from → from ≤ j → j < length ends → at_end ends i d ≢ at_end ends j d
  pub told : AreTold ds ends from found

pub nothing_seen : (ds : List DirectedEdge) (ends : List EdgeEnd) → Seen ds ends 0 None
nothing_seen ds ends = record { other = λ i j d l. absurd (omega arith); told = λ k d l. absurd (omega arith) }

-- ---- one vertex more
module _ (ds : List DirectedEdge) (ends : List EdgeEnd) (up : AllPairs IsDirectedBefore ds) (all : AreSortedEnds ds ends) (from past : ℕ) (found : Option ℕ) (seen : Seen ds ends from found) (here : IsPastVertex ends from past) where
  inside : from < length ends
  inside = let a = here.some in let b = here.inside in omega (arith, a, b)

  abbrev d : EdgeEnd
  d = some_end ends from inside

  abbrev v : Pt
  v = at_end ends from d

  at_v : (k : ℕ) (e : EdgeEnd) → from ≤ k → k < past → at_end ends k e ≡ v
  at_v k e l h = here.together k e l h ∙ ap (λ t. t.way.at) (get_or_default ends from e d inside)

  -- behind them none is at this vertex
  none_behind : (k : ℕ) (e : EdgeEnd) → past ≤ k → k < length ends → at_end ends k e ≢ v
  none_behind k e l h f = here.other e (omega (arith, l, h)) (neither_less (at_end ends past e) (at_end ends from e)
      (no_less from past (let a = here.some in omega (arith, a)) (omega (arith, l, h)))
      (let P : Pt → Type 0 = λ t. less t (at_end ends past e) ≡ false in subst P (f ∙ ap (λ t. t.way.at) (get_or_default ends from d e inside)) (no_less past k l h)))
    where
      no_less : (i j : ℕ) → i ≤ j → j < length ends → less (at_end ends j e) (at_end ends i e) ≡ false
      no_less i j l h = (parts (less (at_end ends j e) (at_end ends i e)) (less (at_end ends i e) (at_end ends j e)) (sooner (at_end ends j e) (get_or ends j e).way.end (get_or ends i e).way.end)
          (sorted_far is_sooner_end ends_order ends all.sorted i j e l h)).0

  round : IsRound ends v from past
  round = record {
    inside = here.inside;
    at = at_v;
    only = λ k e h f. elim (cases_lt k from) [
      | inl l ↦ absurd (seen.other k from e l (omega arith) inside (f ∙ ap (λ t. t.way.at) (get_or_default ends from d e inside)))
      | inr l ↦ elim (cases_lt k past) [ inl m ↦ (l, m) | inr m ↦ absurd (none_behind k e m h f) ]
    ];
  }

  others : (i j : ℕ) (e : EdgeEnd) → i < past → past ≤ j → j < length ends → at_end ends i e ≢ at_end ends j e
  others i j e l m h f = elim (cases_lt i from) [
    | inl n ↦ seen.other i j e n (let a = here.some in omega (arith, a, m)) h f
    | inr n ↦ none_behind j e m h (sym f ∙ at_v i e n l)
  ]

  closed_at : ClosesAt ds v → (k : ℕ) (e : EdgeEnd) → from ≤ k → k < past → ClosesAt ds (at_end ends k e)
  closed_at c k e l h = let P : Pt → Type 0 = ClosesAt ds in subst P (sym (at_v k e l h)) c

  pub closed_more : ((k : ℕ) → from ≤ k → k < past → GoesOn ends from past k) → Seen ds ends past found
  closed_more goes = record { other = others; told = told found seen.told }
    where
      c : ClosesAt ds v
      c = closes ds ends up all v from past round d goes

      wider : (k : ℕ) → k < from → k < past
      wider k l = let a = here.some in omega (arith, l, a)

      told : (found : Option ℕ) → AreTold ds ends from found → AreTold ds ends past found
      told None h = λ k e l. elim (cases_lt k from) [ inl m ↦ h k e m | inr m ↦ closed_at c k e m l ]
      told (Some place) h = record {
        end = (h.end.0, wider h.end.0 h.end.1, h.end.2);
        least = λ k e l. elim (cases_lt k from) [ inl m ↦ h.least k e m | inr m ↦ inl (closed_at c k e m l) ];
      }

  pub open_more : ¬ ((k : ℕ) → from ≤ k → k < past → GoesOn ends from past k) → (place : ℕ) → IsLeastPlace ends from past place → Seen ds ends past (lesser found place)
  open_more never place least = record { other = others; told = told found seen.told }
    where
      not_closed : (k : ℕ) (e : EdgeEnd) → from ≤ k → k < past → ¬ (ClosesAt ds (at_end ends k e))
      not_closed k e l h c = never (goes_on ds ends up all v from past round d (let P : Pt → Type 0 = ClosesAt ds in subst P (at_v k e l h) c))

      new : (k : ℕ) × (k < past) × ((d : EdgeEnd) → ((get_or ends k d).way.place ≡ place) × ¬ (ClosesAt ds (at_end ends k d)))
      new = (least.at.0, least.at.2, λ e. (least.at.3 e, not_closed least.at.0 e least.at.1 least.at.2))

      told : (found : Option ℕ) → AreTold ds ends from found → AreTold ds ends past (lesser found place)
      told None h = record { end = new; least = λ k e l. elim (cases_lt k from) [ inl m ↦ inl (h k e m) | inr m ↦ inr (least.least k e m l) ] }
      told (Some other) h = elim (cases_lt other place) [
        | inl l ↦ (let P : Option ℕ → Type 0 = AreTold ds ends past in subst P (sym (cond-true (nat_lt other place) (Some other) (Some place) (lt-ltb other place l))) (kept l))
        | inr l ↦ (let P : Option ℕ → Type 0 = AreTold ds ends past in subst P (sym (cond-false (nat_lt other place) (Some other) (Some place) (le-ltb other place l))) (taken l))
      ]
        where
          kept : other < place → IsLeastOpen ds ends past other
          kept l = record {
            end = (h.end.0, (let a = h.end.1 in let b = here.some in omega (arith, a, b)), h.end.2);
            least = λ k e n. elim (cases_lt k from) [ inl m ↦ h.least k e m | inr m ↦ inr (let a = least.least k e m n in omega (arith, a, l)) ];
          }

          taken : place ≤ other → IsLeastOpen ds ends past place
          taken l = record {
            end = new;
            least = λ k e n. elim (cases_lt k from) [
              | inl m ↦ elim (h.least k e m) [ inl c ↦ inl c | inr b ↦ inr (omega (arith, l, b)) ]
              | inr m ↦ inr (least.least k e m n)
            ];
          }

-- ---- all vertices
module _ (ds : List DirectedEdge) (ends : List EdgeEnd) (up : AllPairs IsDirectedBefore ds) (all : AreSortedEnds ds ends) (from : ℕ) (past : length ends ≤ from) where
  -- where the edge at a place starts
  start_of : (P : Pt → ℕ → Type 0) → ((k : ℕ) (d : EdgeEnd) → k < from → P (at_end ends k d) (get_or ends k d).way.place) → (k : ℕ) → k < length ds → P (edge_at ds k).from k
  start_of P each k h = let Q : Pt → Type 0 = λ t. P t k in subst Q s.2.at_is (let R : ℕ → Type 0 = P s.0.way.at in subst R s.2.place_is
      (let S : EdgeEnd → Type 0 = λ e. P e.way.at e.way.place in subst S s.1.2 (each s.1.0 s.0 (let l = s.1.1 in omega (arith, l)))))
    where
      s : (e : EdgeEnd) × Contains ends e × IsStarting (edge_at ds k) k e
      s = all.both.starts k h

  -- and where it ends
  stop_of : (P : Pt → ℕ → Type 0) → ((k : ℕ) (d : EdgeEnd) → k < from → P (at_end ends k d) (get_or ends k d).way.place) → (k : ℕ) → k < length ds → P (edge_at ds k).to k
  stop_of P each k h = let Q : Pt → Type 0 = λ t. P t k in subst Q s.2.at_is (let R : ℕ → Type 0 = P s.0.way.at in subst R s.2.place_is
      (let S : EdgeEnd → Type 0 = λ e. P e.way.at e.way.place in subst S s.1.2 (each s.1.0 s.0 (let l = s.1.1 in omega (arith, l)))))
    where
      s : (e : EdgeEnd) × Contains ends e × IsArriving (edge_at ds k) k e
      s = all.both.arrives k h

  all_close : ((k : ℕ) (d : EdgeEnd) → k < from → ClosesAt ds (at_end ends k d)) → Closes ds
  all_close each = record {
    are_directed = record { ascending = up; one_way = λ u v c. (at_stop u v c).one_way u c };
    spread = λ v a b m n o. (at_neighbour v a m).spread a b m n o;
    turns = λ u v c. (at_stop u v c).turns u c;
  }
    where
      same : (d e : DirectedEdge) → d ≡ e → ClosesAtEnds ds d → ClosesAtEnds ds e
      same d e f h = let P : DirectedEdge → Type 0 = ClosesAtEnds ds in subst P f h

      edge : (u v : Pt) → Contains ds (from_to u v) → ClosesAtEnds ds (from_to u v)
      edge u v c = same (edge_at ds c.0) (from_to u v) (get_or_default ds c.0 nothing (from_to u v) c.1 ∙ c.2)
          (record { start = start_of (λ t k. ClosesAt ds t) each c.0 c.1; stop = stop_of (λ t k. ClosesAt ds t) each c.0 c.1 })

      at_stop : (u v : Pt) → Contains ds (from_to u v) → ClosesAt ds v
      at_stop u v c = (edge u v c).stop

      at_neighbour : (v a : Pt) → IsNeighbour ds v a → ClosesAt ds v
      at_neighbour v a (inl c) = (edge v a c).start
      at_neighbour v a (inr c) = (edge a v c).stop

  first_is : (place : ℕ) → IsLeastOpen ds ends from place → (length ends ≡ from) → IsFirstOpen ds place
  first_is place h same = record {
    inside = let P : ℕ → Type 0 = λ n. n < length ds in subst P place_is (all.both.inside k d k_in);
    before = λ j l. record { start = start_of (λ t n. n ≡ j → ClosesAt ds t) (earlier j l) j (in_edges j l) refl; stop = stop_of (λ t n. n ≡ j → ClosesAt ds t) (earlier j l) j (in_edges j l) refl };
    not_closed = λ c. (h.end.2 d).1 (end_closes c);
  }
    where
      k : ℕ
      k = h.end.0

      k_in : k < length ends
      k_in = let a = h.end.1 in omega (arith, a, same)

      d : EdgeEnd
      d = some_end ends k k_in

      place_is : (get_or ends k d).way.place ≡ place
      place_is = (h.end.2 d).0

      in_edges : (j : ℕ) → j < place → j < length ds
      in_edges j l = let a = all.both.inside k d k_in in let b = place_is in omega (arith, a, b, l)

      earlier : (j : ℕ) → j < place → (k : ℕ) (d : EdgeEnd) → k < from → (get_or ends k d).way.place ≡ j → ClosesAt ds (at_end ends k d)
      earlier j l k d m e = elim (h.least k d m) [ inl c ↦ c | inr a ↦ absurd (omega (arith, a, e, l)) ]

      end_closes : ClosesAtEnds ds (edge_at ds place) → ClosesAt ds (at_end ends k d)
      end_closes c = let P : Pt → Type 0 = ClosesAt ds in let Q : ℕ → Type 0 = λ n. ClosesAtEnds ds (edge_at ds n) in elim (all.both.genuine k d k_in) [
        | inl s ↦ subst P (sym s.at_is) (subst Q (sym place_is) c).start
        | inr s ↦ subst P (sym s.at_is) (subst Q (sym place_is) c).stop
      ]

  pub all_seen : (found : Option ℕ) → from ≡ length ends → Seen ds ends from found → MatchOption found (Closes ds) (λ place. IsFirstOpen ds place)
  all_seen None same h = all_close h.told
  all_seen (Some place) same h = first_is place h.told (sym same)

-- where they close, no edge is the first one where they don't
pub never_open : (ds : List DirectedEdge) (place : ℕ) → Closes ds → ¬ (IsFirstOpen ds place)
never_open ds place c o = o.not_closed (record { start = at (edge_at ds place).from; stop = at (edge_at ds place).to })
  where
    at : (v : Pt) → ClosesAt ds v
    at v = record { one_way = λ u. c.are_directed.one_way u v; spread = c.spread v; turns = λ u. c.turns u v }
