-- Records that are sorted: their parts, and the links of these behind one another.
use Rattle.std.proofs.Common.{◌≡◌, ◌≢◌, ℕ, suc, ◌+◌, ◌-◌, ◌<◌, List, [], ◌∷◌, ◌++◌, Bool, cond, refl, sym, ◌∙◌, arith, subst, length, get_or, ⊎_elim}
use Rattle.std.specs.Prelude.{AllPairs, Contains, count_by}
use Rattle.std.proofs.lemmas.Option.{slice_get-get_or}
use Rattle.geom.proofs.Lists.{some_same}
use Rattle.std.proofs.lemmas.Bool.Decides.{eqb_tells}
use Rattle.std.proofs.lemmas.List.{get_or-append-add, get_or_append_left, length-append}
use Rattle.std.proofs.lemmas.List.Sums.{sum_by-append, sum_by-cons}
use Rattle.geom.specs.declared.edge.Edge.{Edge}
use Rattle.hot_region.proofs.ListLaws.{no_one}
use Rattle.routing.specs.declared.record.Record.{Record}
use Rattle.linking.specs.Links.{AreNeighbourLinks, ChangesSegment, makes, passes_at, record_pairs}

-- ---- a relation of all pairs holds in the parts
pub pairs_front : {X : Type 0} (R : X → X → Type 0) (front back : List X) → AllPairs R (front ++ back) → AllPairs R front
pairs_front {X = X} R front back h i j d l k =
    let n = length-append front back in
    let a = get_or_append_left front back d i (omega arith) in
    let b = get_or_append_left front back d j k in
    subst (λ (p : X × X). R p.0 p.1) (λ t. (a t, b t)) (h i j d l (omega arith))

pub pairs_back : {X : Type 0} (R : X → X → Type 0) (front back : List X) → AllPairs R (front ++ back) → AllPairs R back
pairs_back {X = X} R front back h i j d l k =
    let n = length-append front back in
    let a = get_or-append-add front back i d in
    let b = get_or-append-add front back j d in
    subst (λ (p : X × X). R p.0 p.1) (λ t. (a t, b t)) (h (length front + i) (length front + j) d (omega arith) (omega arith))

pub pairs_across : {X : Type 0} (R : X → X → Type 0) (front back : List X) → AllPairs R (front ++ back) → (x y : X) → Contains front x → Contains back y → R x y
pairs_across {X = X} R front back h x y (i, l, e) (j, k, f) =
    let n = length-append front back in
    let a = get_or_append_left front back x i l in
    let b = get_or-append-add front back j y in
    let g : get_or (front ++ back) (length front + j) x ≡ y = same_read (front ++ back) (length front + j) x y (omega arith) ∙ b ∙ f in
    subst (λ (p : X × X). R p.0 p.1) (λ t. ((a ∙ e) t, g t)) (h i (length front + j) x (omega arith) (omega arith))
  where
    same_read : (xs : List X) (m : ℕ) (d c : X) → m < length xs → get_or xs m d ≡ get_or xs m c
    same_read xs m d c w = some_same (slice_get-get_or xs m d w) (slice_get-get_or xs m c w)

-- ---- the pairs of neighbours
module _ (wanted : ℕ → Bool) (e : Edge) where
  abbrev pub made : List Record → ℕ
  made records = count_by (makes wanted e) (record_pairs records)

  -- of two segments
  unmade : (r q : Record) → (r.segment ≡ q.segment → ⊥) → cond {A = ℕ} (makes wanted e (r, q)) 1 0 ≡ 0
  unmade r q apart = no_one (makes wanted e (r, q)) (rw (⊎_elim (λ p. absurd (apart p.1)) (λ p. p.0) (eqb_tells r.segment q.segment)) refl)

  pub made_in_parts : (front back : List Record) → 0 < length front → ChangesSegment (front ++ back) (length front) → made (front ++ back) ≡ made front + made back
  made_in_parts [] back some changes = absurd (omega arith)
  made_in_parts (r ∷ []) [] some changes = refl
  made_in_parts (r ∷ []) (q ∷ qs) some changes =
      let z = unmade r q (changes r (omega arith)) in
      let whole : made ((r ∷ []) ++ (q ∷ qs)) ≡ cond {A = ℕ} (makes wanted e (r, q)) 1 0 + made (q ∷ qs) = sum_by-cons (λ p. cond {A = ℕ} (makes wanted e p) 1 0) (r, q) (record_pairs (q ∷ qs)) in
      let one : made (r ∷ []) ≡ 0 = refl in
      omega arith
  made_in_parts (r ∷ q ∷ rs) back some changes =
      let n = length rs in
      let a : suc n - 1 ≡ n = omega arith in
      let b : suc (suc n) - 1 ≡ suc n = omega arith in
      let h = made_in_parts (q ∷ rs) back (omega arith) (λ d l. subst (λ (m : ℕ). (get_or (q ∷ (rs ++ back)) m d).segment ≢ (get_or (rs ++ back) n d).segment) (sym a) (subst (λ (m : ℕ). (get_or (r ∷ q ∷ (rs ++ back)) m d).segment ≢ (get_or (rs ++ back) n d).segment) b (changes d (omega arith)))) in
      let whole : made ((r ∷ q ∷ rs) ++ back) ≡ cond {A = ℕ} (makes wanted e (r, q)) 1 0 + made ((q ∷ rs) ++ back) = sum_by-cons (λ p. cond {A = ℕ} (makes wanted e p) 1 0) (r, q) (record_pairs ((q ∷ rs) ++ back)) in
      let part : made (r ∷ q ∷ rs) ≡ cond {A = ℕ} (makes wanted e (r, q)) 1 0 + made (q ∷ rs) = sum_by-cons (λ p. cond {A = ℕ} (makes wanted e p) 1 0) (r, q) (record_pairs (q ∷ rs)) in
      omega arith

-- the links of one part behind those of the other
pub neighbour_links_append : {M L : Type 0} (link_of : M → Edge → L) (makers : List M) (front back : List Record) (links rest : List L) → 0 < length front → ChangesSegment (front ++ back) (length front) → AreNeighbourLinks link_of makers front links → AreNeighbourLinks link_of makers back rest → AreNeighbourLinks link_of makers (front ++ back) (links ++ rest)
neighbour_links_append link_of makers front back links rest some changes f b = record {
  few = let n = length-append front back in let m = length-append links rest in let p = f.few in let q = b.few in omega arith;
  count_is = λ e wanted test pass.
      let whole = made_in_parts (passes_at wanted makers) e front back some changes in
      let both : count_by test (links ++ rest) ≡ count_by test links + count_by test rest = sum_by-append (λ m. cond (test m) 1 0) links rest in
      let p = f.count_is e wanted test pass in
      let q = b.count_is e wanted test pass in
      omega arith;
}
