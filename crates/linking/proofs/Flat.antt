-- The neighbours in a list of records, and those in the segments' routes.
use Rattle.std.proofs.Common.{◌≡◌, inl, inr, ℕ, suc, ◌+◌, ◌<◌, ◌≤◌, List, [], ◌∷◌, ◌++◌, Bool, true, false, cond, refl, sym, ◌∙◌, ap, arith, subst, length, ◌↔◌, ⊎_elim, map, eqb}
use Rattle.std.specs.Prelude.{AllPairs, Contains, Some, filter, count_by, slice_get, ◌&&◌, ◌≢◌, not, if◌then◌else◌}
use Rattle.std.proofs.lemmas.List.{get_or_default}
use Rattle.std.proofs.lemmas.List.Kept.{AllPairs-filter}
use Rattle.std.proofs.lemmas.List.Sums.{sum_by-append, sum_by-cons}
use Rattle.std.proofs.lemmas.Bool.{eqb-true, eq-eqb}
use Rattle.std.proofs.lemmas.Bool.Decides.{eqb_tells}
use Rattle.std.proofs.lemmas.Option.{slice_get_within, get_or_from_slice_get}
use Rattle.std.proofs.Math.ListN.{get_or-map}
use Rattle.std.proofs.lemmas.List.{length-map}
use Rattle.geom.specs.declared.point.Pt.{Pt}
use Rattle.geom.specs.declared.segment.Seg.{Seg}
use Rattle.geom.specs.declared.edge.Edge.{Edge}
use Rattle.geom.specs.Segments.{neighbours}
use Rattle.geom.specs.Hot.{IsHot}
use Rattle.geom.specs.Route.{Meets, IsEarlier, IsRoute, AreRoutes}
use Rattle.geom.specs.Route.AreRoutes.{none, next}
use Rattle.geom.specs.Rounded.{joins}
use Rattle.geom.proofs.Lists.{some_same}
use Rattle.hot_region.proofs.ListLaws.{in_cons, here, in_filter, in_map, head_pair, tail_pairs, pairs_map, filter_none, no_one}
use Rattle.routing.specs.declared.record.Record.{Record}
use Rattle.routing.specs.Steps.{steps_to}
use Rattle.routing.specs.Pieces.{IsRecord}
use Rattle.routing.proofs.StepLaws.{earlier_from_steps}
use Rattle.linking.specs.Links.{IsRecordBefore, AreRecords, record_pairs, makes, passes_at, wanted_steps}

-- ---- the records of one segment, and of the later ones
abbrev pub is_own : ℕ → Record → Bool
is_own k r = eqb r.segment k

abbrev pub own : ℕ → List Record → List Record
own k rs = filter (is_own k) rs

abbrev pub later : ℕ → List Record → List Record
later k rs = filter (λ r. not (is_own k r)) rs

abbrev pub route_of : ℕ → List Record → List Pt
route_of k rs = map (λ r. r.pixel) (own k rs)

abbrev pub routes_from : ℕ → List Seg → List Record → List (List Pt)
routes_from k [] rs = []
routes_from k (s ∷ ss) rs = route_of k rs ∷ routes_from (suc k) ss (later k rs)

not_eqb : (a b : ℕ) → (a ≡ b → ⊥) → eqb a b ≡ false
not_eqb a b h = ⊎_elim (λ p. absurd (h p.1)) (λ p. p.0) (eqb_tells a b)

split_records : (k : ℕ) (rs : List Record) → AllPairs IsRecordBefore rs → ((r : Record) → Contains rs r → k ≤ r.segment) → rs ≡ own k rs ++ later k rs
split_records k [] p h = refl
split_records k (r ∷ rs) p h = let rest = split_records k rs (tail_pairs IsRecordBefore r rs p) (λ q g. h q (in_cons r rs q g)) in ⊎_elim (first rest) (last rest) (eqb_tells r.segment k)
  where
    first : rs ≡ own k rs ++ later k rs → (eqb r.segment k ≡ true) × (r.segment ≡ k) → (r ∷ rs) ≡ own k (r ∷ rs) ++ later k (r ∷ rs)
    first rest e = rw e.0 (ap (λ (ys : List Record). r ∷ ys) rest)

    above : (q : Record) → (r.segment ≢ k) → IsRecordBefore r q → q.segment ≡ k → ⊥
    above q e (inl b) f = let u = h r (here r rs) in omega arith
    above q e (inr b) f = e (b.0 ∙ f)

    last : rs ≡ own k rs ++ later k rs → (eqb r.segment k ≡ false) × (r.segment ≢ k) → (r ∷ rs) ≡ own k (r ∷ rs) ++ later k (r ∷ rs)
    last rest e =
        let empty : own k rs ≡ [] = filter_none (is_own k) rs (λ q g. not_eqb q.segment k (above q e.1 (head_pair IsRecordBefore r rs q p g))) in
        rw (e.0, empty) (ap (λ (ys : List Record). r ∷ ys) (rest ∙ ap (λ (ys : List Record). ys ++ later k rs) empty))

-- ---- routes
-- the records in the region of the segments from number k on
pub record AreFrom (In : Pt → Type 0) (segments : List Seg) (k : ℕ) (rs : List Record) : Type 0 where
  pub ascending : AllPairs IsRecordBefore rs
  pub exact : (r : Record) → Contains rs r ↔ ((IsRecord segments r × In r.pixel) × (k ≤ r.segment))

own_is : (k : ℕ) (rs : List Record) (r : Record) → Contains (own k rs) r ↔ (Contains rs r × (r.segment ≡ k))
own_is k rs r = (
  (λ h. let g = (in_filter (is_own k) rs r).0 h in (g.0, eqb-true r.segment k g.1)),
  (λ h. (in_filter (is_own k) rs r).1 (h.0, eq-eqb r.segment k h.1)),
)

later_is : (k : ℕ) (rs : List Record) (r : Record) → Contains (later k rs) r ↔ (Contains rs r × (r.segment ≢ k))
later_is k rs r = (
  (λ h. let g = (in_filter (λ q. not (is_own k q)) rs r).0 h in (g.0, λ e. let f = eq-eqb r.segment k e in clash (eqb r.segment k) f g.1)),
  (λ h. (in_filter (λ q. not (is_own k q)) rs r).1 (h.0, rw (not_eqb r.segment k h.1) refl)),
)
  where
    clash : (b : Bool) → b ≡ true → not b ≡ true → ⊥
    clash true e f = cc
    clash false e f = cc

pub AreFrom-later : (In : Pt → Type 0) (segments : List Seg) (k : ℕ) (rs : List Record) → AreFrom In segments k rs → AreFrom In segments (suc k) (later k rs)
AreFrom-later In segments k rs h = record {
  ascending = AllPairs-filter IsRecordBefore (λ r. not (is_own k r)) rs h.ascending;
  exact = λ r. (
    (λ g. let a = (later_is k rs r).0 g in let b = (h.exact r).0 a.0 in (b.0, above r b.1 a.1)),
    (λ g. (later_is k rs r).1 ((h.exact r).1 (g.0, below r g.1), λ e. apart r g.1 e)),
  );
}
  where
    above : (r : Record) → k ≤ r.segment → r.segment ≢ k → suc k ≤ r.segment
    above r a b = omega arith

    below : (r : Record) → suc k ≤ r.segment → k ≤ r.segment
    below r a = omega arith

    apart : (r : Record) → suc k ≤ r.segment → r.segment ≡ k → ⊥
    apart r a b = omega arith

module _ (In : Pt → Type 0) (segments : List Seg) (k : ℕ) (s : Seg) (rs : List Record) (at : slice_get segments k ≡ Some s) (h : AreFrom In segments k rs) where
  -- what a record of this segment says
  own_record : (r : Record) → Contains (own k rs) r → (r.segment ≡ k) × (IsHot segments r.pixel × In r.pixel) × Meets s r.pixel × (r.steps ≡ steps_to s r.pixel)
  own_record r c =
      let a = (own_is k rs r).0 c in
      let (b, inside) = ((h.exact r).0 a.0).0 in
      let t : b.s ≡ s = some_same (subst (λ (n : ℕ). slice_get segments n ≡ Some b.s) a.1 b.is_at) at in
      (a.1, (b.hot, inside), subst (λ (u : Seg). Meets u r.pixel) t b.met, b.steps_are ∙ ap (λ (u : Seg). steps_to u r.pixel) t)

  own_order : (r q : Record) → Contains (own k rs) r → Contains (own k rs) q → IsRecordBefore r q → IsEarlier s r.pixel q.pixel
  own_order r q a b (inl l) = let u = (own_record r a).0 in let v = (own_record q b).0 in absurd (omega arith)
  own_order r q a b (inr (e, l)) =
      let (u, uh, um, us) = own_record r a in
      let (v, vh, vm, vs) = own_record q b in
      earlier_from_steps s r.pixel q.pixel um vm (subst (λ (m : ℕ). m < steps_to s q.pixel) us (subst (λ (n : ℕ). r.steps < n) vs l))

  pub in_route : (c : Pt) → Contains (route_of k rs) c ↔ (IsHot segments c × Meets s c × In c)
  in_route c = (to, from)
    where
      to : Contains (route_of k rs) c → IsHot segments c × Meets s c × In c
      to g = let (r, a, e) = (in_map (λ (r : Record). r.pixel) (own k rs) c).0 g in let (u, (uh, ui), um, us) = own_record r a in (subst (λ (p : Pt). IsHot segments p) e uh, subst (λ (p : Pt). Meets s p) e um, subst In e ui)

      from : IsHot segments c × Meets s c × In c → Contains (route_of k rs) c
      from (hot, met, inside) =
          let r : Record = record { segment = k; steps = steps_to s c; pixel = c } in
          let is : IsRecord segments r = record { s = s; is_at = at; hot = hot; met = met; steps_are = refl } in
          (in_map (λ (q : Record). q.pixel) (own k rs) c).1 (r, (own_is k rs r).1 ((h.exact r).1 ((is, inside), omega arith), refl), refl)

  pub route_ordered : AllPairs (IsEarlier s) (route_of k rs)
  route_ordered = pairs_map IsRecordBefore (IsEarlier s) (λ r. r.pixel) (own k rs) sorted own_order
    where
      sorted : AllPairs IsRecordBefore (own k rs)
      sorted = AllPairs-filter IsRecordBefore (is_own k) rs h.ascending

-- every point is in this region
abbrev pub Anywhere : Pt → Type 0
Anywhere c = Unit {0}

pub route_is : (segments : List Seg) (k : ℕ) (s : Seg) (rs : List Record) → slice_get segments k ≡ Some s → AreFrom Anywhere segments k rs → IsRoute segments s (route_of k rs)
route_is segments k s rs at h = record {
  exact = λ c. (λ g. let (hot, met, inside) = (in_route Anywhere segments k s rs at h c).0 g in (hot, met), λ g. (in_route Anywhere segments k s rs at h c).1 (g.0, g.1, tt));
  ordered = route_ordered Anywhere segments k s rs at h;
}

-- the segments from number k on
abbrev pub StandFrom : List Seg → ℕ → List Seg → Type 0
StandFrom segments k ss = (j : ℕ) (s : Seg) → slice_get ss j ≡ Some s → slice_get segments (k + j) ≡ Some s

pub StandFrom-first : (segments : List Seg) (k : ℕ) (s : Seg) (ss : List Seg) → StandFrom segments k (s ∷ ss) → slice_get segments k ≡ Some s
StandFrom-first segments k s ss h = let e : k + 0 ≡ k = omega arith in subst (λ (n : ℕ). slice_get segments n ≡ Some s) e (h 0 s refl)

pub StandFrom-rest : (segments : List Seg) (k : ℕ) (s : Seg) (ss : List Seg) → StandFrom segments k (s ∷ ss) → StandFrom segments (suc k) ss
StandFrom-rest segments k s ss h = λ j t at. let e : k + suc j ≡ suc k + j = omega arith in subst (λ (n : ℕ). slice_get segments n ≡ Some t) e (h (suc j) t at)

pub routes_are : (segments : List Seg) (k : ℕ) (ss : List Seg) (rs : List Record) → StandFrom segments k ss → AreFrom Anywhere segments k rs → AreRoutes segments ss (routes_from k ss rs)
routes_are segments k [] rs st h = none
routes_are segments k (s ∷ ss) rs st h = next (route_is segments k s rs (StandFrom-first segments k s ss st) h) (routes_are segments (suc k) ss (later k rs) (StandFrom-rest segments k s ss st) (AreFrom-later Anywhere segments k rs h))

-- ---- counts

module _ (wanted : ℕ → Bool) (e : Edge) where
  abbrev pub made : List Record → ℕ
  made rs = count_by (makes wanted e) (record_pairs rs)

  made_cons : (r q : Record) (rs : List Record) → made (r ∷ q ∷ rs) ≡ cond (makes wanted e (r, q)) 1 0 + made (q ∷ rs)
  made_cons r q rs = sum_by-cons (λ p. cond (makes wanted e p) 1 0) (r, q) (record_pairs (q ∷ rs))

  and_false : (a : Bool) → (a && false) ≡ false
  and_false true = refl
  and_false false = refl

  and_true : (a : Bool) → (a && true) ≡ a
  and_true true = refl
  and_true false = refl

  parted : (r q : Record) → (r.segment ≡ q.segment → ⊥) → makes wanted e (r, q) ≡ false
  parted r q h = rw (not_eqb r.segment q.segment h) refl

  made_append : (k : ℕ) (xs ys : List Record) → ((r : Record) → Contains xs r → r.segment ≡ k) → ((r : Record) → Contains ys r → r.segment ≢ k) → made (xs ++ ys) ≡ made xs + made ys
  made_append k [] ys f g = omega arith
  made_append k (x ∷ []) [] f g = refl
  made_append k (x ∷ []) (y ∷ ys) f g = let n = parted x y (λ h. g y (here y ys) (sym h ∙ f x (here x []))) in let c = made_cons x y ys in let d = no_one (makes wanted e (x, y)) n in omega arith
  made_append k (x ∷ z ∷ xs) ys f g = let a = made_cons x z (xs ++ ys) in let b = made_cons x z xs in let c = made_append k (z ∷ xs) ys (λ r h. f r (in_cons x (z ∷ xs) r h)) g in omega arith

  own_yes : (k : ℕ) (rs : List Record) → wanted k ≡ true → ((r : Record) → Contains rs r → r.segment ≡ k) → made rs ≡ count_by (joins e) (neighbours (map (λ r. r.pixel) rs))
  own_yes k [] y f = refl
  own_yes k (r ∷ []) y f = refl
  own_yes k (r ∷ q ∷ rs) y f =
      let same : makes wanted e (r, q) ≡ joins e (r.pixel, q.pixel) = rw (f r (here r (q ∷ rs)), f q (in_cons r (q ∷ rs) q (here q rs)), y, eq-eqb k k refl) (and_true (joins e (r.pixel, q.pixel))) in
      let a = made_cons r q rs in
      let b = sum_by-cons (λ p. cond (joins e p) 1 0) (r.pixel, q.pixel) (neighbours (map (λ (u : Record). u.pixel) (q ∷ rs))) in
      let c = own_yes k (q ∷ rs) y (λ u h. f u (in_cons r (q ∷ rs) u h)) in
      let d : cond (makes wanted e (r, q)) 1 0 ≡ cond (joins e (r.pixel, q.pixel)) 1 0 = ap (λ (v : Bool). cond v 1 0) same in
      a ∙ ap (λ (n : ℕ). n + made (q ∷ rs)) d ∙ ap (λ (n : ℕ). cond (joins e (r.pixel, q.pixel)) 1 0 + n) c ∙ sym b

  own_no : (k : ℕ) (rs : List Record) → wanted k ≡ false → ((r : Record) → Contains rs r → r.segment ≡ k) → made rs ≡ 0
  own_no k [] n f = refl
  own_no k (r ∷ []) n f = refl
  own_no k (r ∷ q ∷ rs) n f =
      let same : makes wanted e (r, q) ≡ false = rw (f r (here r (q ∷ rs)), f q (in_cons r (q ∷ rs) q (here q rs)), n, and_false (joins e (r.pixel, q.pixel)), and_false (eqb k k)) refl in
      let a = made_cons r q rs in
      let c = own_no k (q ∷ rs) n (λ u h. f u (in_cons r (q ∷ rs) u h)) in
      let d = no_one (makes wanted e (r, q)) same in
      omega arith

  own_made : (k : ℕ) (w : Bool) (rs : List Record) → wanted k ≡ w → ((r : Record) → Contains rs r → r.segment ≡ k) → made rs ≡ count_by (joins e) (if w then neighbours (map (λ r. r.pixel) rs) else [])
  own_made k true rs h f = own_yes k rs h f
  own_made k false rs h f = own_no k rs h f

  module _ {M : Type 0} (is_wanted : M → Bool) where
    abbrev pub WantedFrom : ℕ → List M → Type 0
    WantedFrom k xs = (j : ℕ) (x : M) → slice_get xs j ≡ Some x → wanted (k + j) ≡ is_wanted x

    pub flat_count : (In : Pt → Type 0) (segments : List Seg) (k : ℕ) (ss : List Seg) (xs : List M) (rs : List Record) → length xs ≡ length ss → length segments ≡ k + length ss → WantedFrom k xs → AreFrom In segments k rs → made rs ≡ count_by (joins e) (wanted_steps is_wanted xs (routes_from k ss rs))
    flat_count In segments k [] (x ∷ xs) rs m n l h = absurd (omega arith)
    flat_count In segments k (s ∷ ss) [] rs m n l h = absurd (omega arith)
    flat_count In segments k [] [] [] m n l h = refl
    flat_count In segments k [] [] (r ∷ rs) m n l h = let a = (h.exact r).0 (here r rs) in let b = slice_get_within segments r.segment a.0.0.s a.0.0.is_at in let c = a.1 in absurd (omega arith)
    flat_count In segments k (s ∷ ss) (x ∷ xs) rs m n l h =
        let here_wanted : wanted k ≡ is_wanted x = (let e : k + 0 ≡ k = omega arith in subst (λ (m : ℕ). wanted m ≡ is_wanted x) e (l 0 x refl)) in
        let rest_wanted : WantedFrom (suc k) xs = λ j y at. let e : k + suc j ≡ suc k + j = omega arith in subst (λ (m : ℕ). wanted m ≡ is_wanted y) e (l (suc j) y at) in
        let a = split_records k rs h.ascending (λ r g. ((h.exact r).0 g).1) in
        let b = made_append k (own k rs) (later k rs) (λ r g. ((own_is k rs r).0 g).1) (λ r g. ((later_is k rs r).0 g).1) in
        let c = own_made k (is_wanted x) (own k rs) here_wanted (λ r g. ((own_is k rs r).0 g).1) in
        let d = flat_count In segments (suc k) ss xs (later k rs) (omega arith) (omega arith) rest_wanted (AreFrom-later In segments k rs h) in
        let t = sum_by-append (λ p. cond (joins e p) 1 0) (if is_wanted x then neighbours (route_of k rs) else []) (wanted_steps is_wanted xs (routes_from (suc k) ss (later k rs))) in
        ap made a ∙ b ∙ ap (λ (m : ℕ). m + made (later k rs)) c ∙ ap (λ (m : ℕ). count_by (joins e) (if is_wanted x then neighbours (route_of k rs) else []) + m) d ∙ sym t

pub passes_at_is : {M : Type 0} (is_wanted : M → Bool) (makers : List M) (k : ℕ) (x : M) → slice_get makers k ≡ Some x → passes_at is_wanted makers k ≡ is_wanted x
passes_at_is is_wanted makers k x at =
    get_or_default (map is_wanted makers) k false (is_wanted x) (rw (length-map makers is_wanted) (slice_get_within makers k x at)) ∙ get_or-map is_wanted makers k x ∙ ap is_wanted (get_or_from_slice_get makers k x x at)

-- the routes that records in order tell, and the number of places where they join an edge
module _ (segments : List Seg) (records : List Record) (h : AreRecords segments records) where
  from : AreFrom Anywhere segments 0 records
  from = record { ascending = h.ascending; exact = λ r. (λ g. (((h.exact r).0 g, tt), omega arith), λ g. (h.exact r).1 g.0.0) }

  stand : StandFrom segments 0 segments
  stand = λ j s at. let e : j ≡ 0 + j = omega arith in subst (λ (n : ℕ). slice_get segments n ≡ Some s) e at

  pub routes_of_records : AreRoutes segments segments (routes_from 0 segments records)
  routes_of_records = routes_are segments 0 segments records stand from

  pub count_is : {M : Type 0} (makers : List M) → length makers ≡ length segments → (e : Edge) (is_wanted : M → Bool) → count_by (makes (passes_at is_wanted makers) e) (record_pairs records) ≡ count_by (joins e) (wanted_steps is_wanted makers (routes_from 0 segments records))
  count_is makers same e is_wanted = flat_count (passes_at is_wanted makers) e is_wanted Anywhere segments 0 segments makers records same (omega arith)
      (λ j x at. let n : j ≡ 0 + j = omega arith in passes_at_is is_wanted makers (0 + j) x (subst (λ (n : ℕ). slice_get makers n ≡ Some x) n at)) from
