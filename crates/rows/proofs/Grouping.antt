-- Runs of row edges, one behind another.
use Rattle.std.proofs.Common.{◌≡◌, inl, inr, ℕ, ◌+◌, ◌-◌, ◌<◌, ◌≤◌, List, [], ◌∷◌, ◌++◌, length, get_or, take, drop, flat_map, refl, sym, ap, ◌∙◌, arith, subst, ⊎_elim, get_or-drop, length-drop, take-add}
use Rattle.std.specs.List.{All, AllPairs, AllWithin, Contains}
use Rattle.std.specs.Prelude.{◌≢◌, pos, slice_range}
use Rattle.std.proofs.lemmas.Bool.{cases_eq}
use Rattle.std.proofs.lemmas.Grind.{flat_map-append}
use Rattle.std.proofs.lemmas.List.{append-nil, get_or-take, length-take, take_all}
use Rattle.std.proofs.lemmas.List.Elements.{All-append, All-cons, All-nil, Contains-get_or, Contains-push_cases}
use Rattle.std.proofs.lemmas.List.Quantifiers.{all_pairs_push}
use Rattle.geom.proofs.Lists.{contains_in}
use Rattle.rows.specs.declared.edges.RowEdge.{RowEdge}
use Rattle.rows.specs.declared.runs.RowSet.{RowSet}
use Rattle.rows.specs.RowEdges.{IsRowEdgeBefore}
use Rattle.rows.specs.RowSets.{AreRowSets, run_of}

-- what stands at a place of a part of a list
pub at_slice : {X : Type 0} (xs : List X) (a b k : ℕ) (d : X) → k < length (slice_range xs a b) → get_or (slice_range xs a b) k d ≡ get_or xs (a + k) d
at_slice xs a b k d l =
    let s = length-take (b - a) (drop a xs) in
    get_or-take (b - a) (drop a xs) k d (omega (arith, l, s)) ∙ get_or-drop a xs k d

pub below_end : {X : Type 0} (xs : List X) (a b k : ℕ) → k < length (slice_range xs a b) → (a + k < b) × (a + k < length xs)
below_end xs a b k l =
    let s = length-take (b - a) (drop a xs) in
    let t = length-drop a xs in
    (omega (arith, l, s), omega (arith, l, s, t))

-- what holds from one place to before another one holds of what stands there
pub all_within : {X : Type 0} (P : X → Type 0) (xs : List X) (a b : ℕ) → AllWithin P xs a b → All P (slice_range xs a b)
all_within P xs a b w k d l = subst P (sym (at_slice xs a b k d l)) (w (a + k) d (omega arith) (below_end xs a b k l).0)

pub pairs_slice : {X : Type 0} (R : X → X → Type 0) (xs : List X) (a b : ℕ) → AllPairs R xs → AllPairs R (slice_range xs a b)
pairs_slice {X} R xs a b p i j d h l =
    let k : i < length (slice_range xs a b) = omega (arith, h, l) in
    let more : a + i < a + j = omega (arith, h) in
    subst (λ (x : X × X). R x.0 x.1) (λ t. (sym (at_slice xs a b i d k) t, sym (at_slice xs a b j d l) t)) (p (a + i) (a + j) d more (below_end xs a b j l).1)

-- the sets of the edges before a place, which are less than those from there on
pub record IsGrouped (edges : List RowEdge) (from : ℕ) (list : List RowSet) : Type 0 where
  pub within : from ≤ length edges
  pub some : All (λ r. (r.from < r.to) × (r.to ≤ length edges)) list
  pub same : (r : RowSet) → Contains list r → All (λ e. e.set ≡ r.set) (run_of edges r)
  pub together : flat_map (run_of edges) list ≡ take from edges
  pub ascending : AllPairs (λ r s. r.set < s.set) list
  pub behind : (k : ℕ) (d : RowEdge) → from ≤ k → k < length edges → (r : RowSet) → Contains list r → r.set < (get_or edges k d).set

pub not_grouped : (edges : List RowEdge) → IsGrouped edges 0 []
not_grouped edges = record {
  within = omega arith;
  some = All-nil (λ r. (r.from < r.to) × (r.to ≤ length edges));
  same = λ r c. absurd (contains_in [] r c);
  together = refl;
  ascending = λ i j d a b. absurd (omega arith);
  behind = λ k d a b r c. absurd (contains_in [] r c);
}

pub all_grouped : (edges : List RowEdge) (from : ℕ) (list : List RowSet) → length edges ≤ from → IsGrouped edges from list → AreRowSets edges list
all_grouped edges from list l g = record { some = g.some; same = g.same; together = g.together ∙ take_all from edges l; ascending = g.ascending }

module _ (edges : List RowEdge) (up : AllPairs IsRowEdgeBefore edges) where
  up_to : (i j : ℕ) (d : RowEdge) → i ≤ j → j < length edges → (get_or edges i d).set ≤ (get_or edges j d).set
  up_to i j d h l = ⊎_elim (λ e. same (ap (λ (n : ℕ). (get_or edges n d).set) e)) (λ n. by_order (get_or edges i d) (get_or edges j d) (up i j d (omega (arith, h, n)) l)) (cases_eq i j)
    where
      same : {m n : ℕ} → m ≡ n → m ≤ n
      same {m} {n} e = omega (arith, e)

      by_order : (x y : RowEdge) → IsRowEdgeBefore x y → x.set ≤ y.set
      by_order x y (inl a) = omega (arith, a)
      by_order x y (inr a) = let e = a.0 in omega (arith, e)

  module _ (from to : ℕ) (list : List RowSet) (set : ℕ) (g : IsGrouped edges from list) (after : from < to) (within : to ≤ length edges) (run : AllWithin (λ (e : RowEdge). e.set ≡ set) edges from to) (past : (d : RowEdge) → to < length edges → (get_or edges to d).set ≢ set) where
    abbrev next : RowSet
    next = record { set = set; from = from; to = to }

    beyond : (k : ℕ) (d : RowEdge) → to ≤ k → k < length edges → set < (get_or edges k d).set
    beyond k d h l =
        let first = run from d (omega arith) after in
        let upto = up_to from to d (omega (arith, after)) (omega (arith, h, l)) in
        let more = up_to to k d h l in
        let apart = past d (omega (arith, h, l)) in
        strict set (get_or edges from d).set (get_or edges to d).set (get_or edges k d).set first upto more apart
      where
        strict : (s a b c : ℕ) → a ≡ s → a ≤ b → b ≤ c → b ≢ s → s < c
        strict s a b c e h k n = ⊎_elim (λ same. absurd (n same)) (λ other. omega (arith, e, h, k, other)) (cases_eq b s)

    by_old : {P : RowSet → Type 0} → ((r : RowSet) → Contains list r → P r) → P next → (r : RowSet) → Contains (list ++ next ∷ []) r → P r
    by_old {P} f h r c = ⊎_elim (λ o. f r o) (λ k. subst P k h) (Contains-push_cases list next r c)

    parts : take from edges ++ slice_range edges from to ≡ take to edges
    parts = let whole : from + (to - from) ≡ to = omega (arith, after) in sym (take-add from (to - from) edges) ∙ ap (λ (n : ℕ). take n edges) whole

    pub one_set_more : IsGrouped edges to (list ++ next ∷ [])
    one_set_more = record {
      within = within;
      some = All-append (λ r. (r.from < r.to) × (r.to ≤ length edges)) list (next ∷ []) g.some (All-cons (λ r. (r.from < r.to) × (r.to ≤ length edges)) next [] (after, within) (All-nil (λ r. (r.from < r.to) × (r.to ≤ length edges))));
      same = by_old {P = λ r. All (λ e. e.set ≡ r.set) (run_of edges r)} g.same (all_within (λ (e : RowEdge). e.set ≡ set) edges from to run);
      together = flat_map-append (run_of edges) list (next ∷ []) ∙ ap (λ (xs : List RowEdge). xs ++ (slice_range edges from to ++ [])) g.together ∙ ap (λ (xs : List RowEdge). take from edges ++ xs) (append-nil (slice_range edges from to)) ∙ parts;
      ascending = all_pairs_push (λ r s. r.set < s.set) list next g.ascending (λ k d l. before (get_or list k d) (Contains-get_or list k d l));
      behind = λ k d h l. by_old {P = λ r. r.set < (get_or edges k d).set} (λ r c. g.behind k d (omega (arith, h, after)) l r c) (beyond k d h l);
    }
      where
        before : (r : RowSet) → Contains list r → r.set < set
        before r c =
            let e : RowEdge = record { set = 0; edge = record { from = record { x = pos 0; y = pos 0 }; to = record { x = pos 0; y = pos 0 } } } in
            subst (λ (n : ℕ). r.set < n) (run from e (omega arith) after) (g.behind from e (omega arith) (omega (arith, after, within)) r c)
