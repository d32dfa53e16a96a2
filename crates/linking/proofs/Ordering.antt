-- Parts of all hot pixels and of all records are what a tile has, whatever order they were found in.
use Rattle.std.proofs.Common.{◌≡◌, ◌⊎◌, inl, inr, ℕ, ◌<◌, ◌≤◌, List, [], ◌∷◌, length, get_or, refl, sym, ap, subst, ◌∙◌, arith, ⊎_elim}
use Rattle.std.proofs.lemmas.Bool.{cases_lt}
use Rattle.std.proofs.lemmas.List.Elements.{Contains-get_or}
use Rattle.std.specs.Prelude.{AllPairs, Some, slice_get, sum_by}
use Rattle.geom.specs.declared.point.Pt.{Pt}
use Rattle.geom.specs.declared.segment.Seg.{Seg}
use Rattle.geom.specs.Hot.{IsHot}
use Rattle.geom.specs.Order.{IsBefore}
use Rattle.geom.specs.Route.{Meets}
use Rattle.geom.proofs.Edges.{PtOrder, pt_order}
use Rattle.geom.proofs.Edges.PtOrder.{before, equal, after}
use Rattle.geom.proofs.ListOrder.{pairs_head, pairs_tail}
use Rattle.geom.proofs.Lists.{In, contains_in, in_contains, some_same}
use Rattle.geom.proofs.Orders.{before_itself, before_trans}
use Rattle.hot_region.proofs.ListLaws.{none_in, pairs_cons}
use Rattle.routing.specs.declared.record.Record.{Record}
use Rattle.routing.specs.Pieces.{IsAlong, IsPieceOf, IsRecord}
use Rattle.routing.specs.Steps.{steps_to}
use Rattle.routing.proofs.StepLaws.{earlier_from_steps, same_from_steps}
use Rattle.linking.specs.Links.{IsRecordBefore}
use Rattle.linking.proofs.Parts.{IsPart, distinct_from, same_length, same_sum}

-- ---- a list of different elements has an ascending one of the same
pub record Ordered {X : Type 0} (R : X → X → Type 0) (xs : List X) : Type 0 where
  pub those : List X
  pub ascending : AllPairs R those
  pub to : (x : X) → In x those → In x xs
  pub from : (x : X) → In x xs → In x those

module _ {X : Type 0} (R : X → X → Type 0) (Is : X → Type 0) (trans : (x y z : X) → R x y → R y z → R x z) (compare : (x y : X) → Is x → Is y → R x y ⊎ ((x ≡ y) ⊎ R y x)) where
  -- x put into its place
  put : (x : X) (ys : List X) → Is x → ((y : X) → In y ys → Is y) → AllPairs R ys → Ordered R (x ∷ ys)
  put x [] is all h = record { those = x ∷ []; ascending = pairs_cons R x [] (λ c m. absurd (none_in c m)) h; to = λ z i. i; from = λ z i. i }
  put x (y ∷ ys) is all h = behind (put x ys is (λ z i. all z (inr i)) (pairs_tail R y ys h))
    where
      head : (z : X) → In z ys → R y z
      head z i = pairs_head R y ys h z i

      first : R x y → Ordered R (x ∷ y ∷ ys)
      first l = record {
        those = x ∷ y ∷ ys;
        ascending = pairs_cons R x (y ∷ ys) (λ z m. ⊎_elim (λ e. subst (R x) e l) (λ i. trans x y z l (head z i)) (contains_in (y ∷ ys) z m)) h;
        to = λ z i. i;
        from = λ z i. i;
      }

      same : x ≡ y → Ordered R (x ∷ y ∷ ys)
      same e = record { those = y ∷ ys; ascending = h; to = λ z i. inr i; from = λ z i. ⊎_elim (λ p. inl (sym e ∙ p)) (λ j. j) i }

      later : Ordered R (x ∷ ys) → R y x → Ordered R (x ∷ y ∷ ys)
      later r l = record {
        those = y ∷ r.those;
        ascending = pairs_cons R y r.those (λ z m. ⊎_elim (λ e. subst (R y) e l) (λ i. head z i) (r.to z (contains_in r.those z m))) r.ascending;
        to = λ z i. ⊎_elim (λ e. inr (inl e)) (λ j. ⊎_elim (λ e. inl e) (λ k. inr (inr k)) (r.to z j)) i;
        from = λ z i. ⊎_elim (λ e. inr (r.from z (inl e))) (λ j. ⊎_elim (λ e. inl e) (λ k. inr (r.from z (inr k))) j) i;
      }

      behind : Ordered R (x ∷ ys) → Ordered R (x ∷ y ∷ ys)
      behind r = ⊎_elim first (⊎_elim same (later r)) (compare x y is (all y (inl refl)))

  pub ordered : (xs : List X) → ((x : X) → In x xs → Is x) → Ordered R xs
  ordered [] all = record { those = []; ascending = λ i j d a b. absurd (omega arith); to = λ z i. i; from = λ z i. i }
  ordered (x ∷ xs) all = with_first (ordered xs (λ z i. all z (inr i)))
    where
      with_first : Ordered R xs → Ordered R (x ∷ xs)
      with_first r = onto (put x r.those (all x (inl refl)) (λ z i. all z (inr (r.to z i))) r.ascending)
        where
          onto : Ordered R (x ∷ r.those) → Ordered R (x ∷ xs)
          onto q = record {
            those = q.those;
            ascending = q.ascending;
            to = λ z i. ⊎_elim (λ e. inl e) (λ j. inr (r.to z j)) (q.to z i);
            from = λ z i. q.from z (⊎_elim (λ e. inl e) (λ j. inr (r.from z j)) i);
          }

-- ---- a part of all hot pixels, and of all records, is what a tile's piece has
module _ (segments : List Seg) where
  -- the steps of two records of one segment, along it
  step_is : (r q : Record) (h : IsRecord segments r) (s : Seg) → slice_get segments r.segment ≡ Some s → (Meets s r.pixel) × (r.steps ≡ steps_to s r.pixel)
  step_is r q h s e = let f = some_same h.is_at e in (subst (λ (u : Seg). Meets u r.pixel) f h.met, h.steps_are ∙ ap (λ (u : Seg). steps_to u r.pixel) f)

  along : (r q : Record) → IsRecord segments r → IsRecord segments q → IsRecordBefore r q → IsAlong segments r q
  along r q h k (inl l) = inl l
  along r q h k (inr (e, l)) = inr (
    e,
    λ s at.
        let a = step_is r r h s at in
        let b = step_is q q k s (subst (λ (n : ℕ). slice_get segments n ≡ Some s) e at) in
        earlier_from_steps s r.pixel q.pixel a.0 b.0 (below a.1 b.1 l),
  )
    where
      below : {a b c d : ℕ} → a ≡ c → b ≡ d → a < b → c < d
      below {a} {b} {c} {d} e f l = omega arith

  record_order : (r q : Record) → IsRecord segments r → IsRecord segments q → IsRecordBefore r q ⊎ ((r ≡ q) ⊎ IsRecordBefore q r)
  record_order r q h k = elim (cases_lt r.segment q.segment) [
    | inl less ↦ inl (inl less)
    | inr more ↦ elim (cases_lt q.segment r.segment) [
      | inl less ↦ inr (inr (inl less))
      | inr few ↦ elim (cases_lt r.steps q.steps) [
        | inl less ↦ inl (inr (level more few, less))
        | inr more_steps ↦ elim (cases_lt q.steps r.steps) [
          | inl less ↦ inr (inr (inr (sym (level more few), less)))
          | inr few_steps ↦ inr (inl (one (level more few) (level more_steps few_steps)))
        ]
      ]
    ]
  ]
    where
      level : {m n : ℕ} → n ≤ m → m ≤ n → m ≡ n
      level {m} {n} a b = omega arith

      one : r.segment ≡ q.segment → r.steps ≡ q.steps → r ≡ q
      one e f =
          let b = step_is q q k h.s (subst (λ (n : ℕ). slice_get segments n ≡ Some h.s) e h.is_at) in
          let p : r.pixel ≡ q.pixel = same_from_steps h.s r.pixel q.pixel h.met b.0 (sym h.steps_are ∙ f ∙ b.1) in
          λ i. record { segment = e i; steps = f i; pixel = p i }

  record_trans : (r q t : Record) → IsRecordBefore r q → IsRecordBefore q t → IsRecordBefore r t
  record_trans r q t (inl l) (inl m) = inl (omega (arith, l, m))
  record_trans r q t (inl l) (inr (e, m)) = inl (omega (arith, l, e))
  record_trans r q t (inr (e, l)) (inl m) = inl (omega (arith, e, m))
  record_trans r q t (inr (e, l)) (inr (f, m)) = inr (e ∙ f, omega (arith, l, m))

  pub never_before : (r : Record) → IsRecordBefore r r → ⊥
  never_before r (inl l) = omega (arith, l)
  never_before r (inr (e, l)) = omega (arith, l)

  point_order : (p q : Pt) → IsHot segments p → IsHot segments q → IsBefore p q ⊎ ((p ≡ q) ⊎ IsBefore q p)
  point_order p q h k = told (pt_order p q)
    where
      told : PtOrder p q → IsBefore p q ⊎ ((p ≡ q) ⊎ IsBefore q p)
      told (before l) = inl l
      told (equal e) = inr (inl e)
      told (after l) = inr (inr l)

  -- a tile's piece, with the records that were found in it, whatever they weigh
  pub record Piece (Owned : Pt → Type 0) (hot : ℕ) (found : List Record) : Type 0 where
    pub records : List Record
    pub is_piece : IsPieceOf Owned segments hot records
    pub sum_is : (weight : Record → ℕ) → sum_by weight found ≡ sum_by weight records

  pub piece_of : (Owned : Pt → Type 0) (hot count : ℕ) → IsPart (IsHot segments) Owned hot → (q : IsPart (IsRecord segments) (λ r. Owned r.pixel) count) → Piece Owned hot q.those
  piece_of Owned hot count p q = record {
    records = records.those;
    is_piece = record {
      pixels = pixels.those;
      are_hot = record {
        ascending = pixels.ascending;
        exact = λ c. (
          (λ m. let i = pixels.to c (contains_in pixels.those c m) in (p.is c i, p.owned c i)),
          (λ (h, o). in_contains pixels.those c (pixels.from c (p.all c h o))),
        );
      };
      hot_is = p.number_is ∙ same_length p.those pixels.those p.distinct (distinct_from IsBefore pixels.those pixels.ascending (λ x i h. before_itself x h)) pixels.from pixels.to;
      ordered = λ i j d a b. along (get_or records.those i d) (get_or records.those j d) (known i d (omega arith)) (known j d b) (records.ascending i j d a b);
      exact = λ r. (
        (λ m. let i = records.to r (contains_in records.those r m) in (q.is r i, q.owned r i)),
        (λ (h, o). in_contains records.those r (records.from r (q.all r h o))),
      );
    };
    sum_is = λ weight. same_sum weight q.those records.those q.distinct (distinct_from IsRecordBefore records.those records.ascending (λ x i h. never_before x h)) records.from records.to;
  }
    where
      pixels : Ordered IsBefore p.those
      pixels = ordered IsBefore (IsHot segments) before_trans point_order p.those p.is

      records : Ordered IsRecordBefore q.those
      records = ordered IsRecordBefore (IsRecord segments) record_trans record_order q.those q.is

      known : (i : ℕ) (d : Record) → i < length records.those → IsRecord segments (get_or records.those i d)
      known i d l = let r = get_or records.those i d in q.is r (records.to r (contains_in records.those r (Contains-get_or records.those i d l)))
