-- One more tile.
use Rattle.std.proofs.Common.{◌≡◌, inl, inr, ℕ, zero, suc, ◌+◌, ◌<◌, ◌≤◌, List, [], ◌∷◌, ◌++◌, refl, sym, ◌∙◌, ap, arith, subst, length, get_or, ⊎_elim}
use Rattle.std.proofs.Math.Logic.{∥∥₁_elim, ∥∥₁_map}
use Rattle.std.proofs.Props.{props}
use Rattle.std.specs.Prelude.{Contains, Option, Some, slice_get, ◌⊎◌, OnOk, Result, Ok, Err}
use Rattle.std.proofs.lemmas.Bool.{cases_lt}
use Rattle.std.proofs.lemmas.List.{length_push}
use Rattle.std.proofs.lemmas.List.Elements.{Contains-push, Contains-push_cases, Contains-get_or}
use Rattle.std.proofs.lemmas.List.Quantifiers.{all_pairs_push}
use Rattle.geom.specs.declared.segment.Seg.{Seg}
use Rattle.grid.specs.Tiles.{Tiling, Owns}
use Rattle.hot_region.proofs.ListLaws.{none_in, in_push}
use Rattle.routing.specs.declared.record.Record.{Record}
use Rattle.routing.specs.declared.pieces.Piece.{Piece}
use Rattle.routing.specs.Pieces.{IsPieceOf}
use Rattle.linking.specs.declared.rounded.TileNumbers.{TileNumbers}
use Rattle.linking.specs.Gathered.{AreTileNumbers, HasTilesBelow}
use Rattle.linking.proofs.Gathering.{below_none, below_more}
use Rattle.chain_gather.specs.Gathered.{HoldsOwn, IsCountBelow, AreGathered}

same_place : (j k : ℕ) → k ≤ j → j < k + 1 → j ≡ k
same_place j k h l = omega arith

weak : (j k : ℕ) → j < k → j < k + 1
weak j k l = omega arith

above : (k : ℕ) → k < k + 1
above k = omega arith

-- ---- how many
pub count_none : (P : ℕ → Type 0) → IsCountBelow 0 P 0
count_none P = record {
  those = [];
  ascending = λ i j d a b. absurd (omega arith);
  exact = λ k. (λ h. absurd (none_in k h), λ h. absurd (let l = h.0 in omega arith));
  number_is = refl;
}

pub count_skip : (P : ℕ → Type 0) (k n : ℕ) → IsCountBelow k P n → ¬ (P k) → IsCountBelow (k + 1) P n
count_skip P k n h fails = record {
  those = h.those;
  ascending = h.ascending;
  exact = λ j. (
    (λ c. let m = (h.exact j).0 c in (weak j k m.0, m.1)),
    (λ c. ⊎_elim (λ l. (h.exact j).1 (l, c.1)) (λ l. absurd (fails (subst P (same_place j k l c.0) c.1))) (cases_lt j k)),
  );
  number_is = h.number_is;
}

pub count_push : (P : ℕ → Type 0) (k n : ℕ) → IsCountBelow k P n → P k → IsCountBelow (k + 1) P (n + 1)
count_push P k n h holds = record {
  those = h.those ++ k ∷ [];
  ascending = all_pairs_push (λ i j. i < j) h.those k h.ascending (λ i d l. ((h.exact (get_or h.those i d)).0 (Contains-get_or h.those i d l)).0);
  exact = λ j. (
    (λ c. ⊎_elim (λ m. let o = (h.exact j).0 m in (weak j k o.0, o.1)) (λ e. (subst (λ (i : ℕ). i < k + 1) e (above k), subst P e holds)) (Contains-push_cases h.those k j c)),
    (λ c. ⊎_elim (λ l. in_push h.those j k ((h.exact j).1 (l, c.1))) (λ l. subst (λ (i : ℕ). Contains (h.those ++ k ∷ []) i) (sym (same_place j k l c.0)) (Contains-push h.those k)) (cases_lt j k)),
  );
  number_is = let e = h.number_is in let f = length_push h.those k in omega arith;
}

-- ---- the tiles' numbers
pushed_at : {X : Type 0} (xs : List X) (y x : X) (j : ℕ) → slice_get (xs ++ y ∷ []) j ≡ Some x → ((j < length xs) × (slice_get xs j ≡ Some x)) ⊎ ((j ≡ length xs) × (y ≡ x))
pushed_at [] y x zero e = inr (refl, cc)
pushed_at [] y x (suc j) e = absurd (cc)
pushed_at (z ∷ xs) y x zero e = inl (omega arith, e)
pushed_at (z ∷ xs) y x (suc j) e = ⊎_elim (λ p. inl (let l = p.0 in omega arith, p.1)) (λ p. inr (ap suc p.0, p.1)) (pushed_at xs y x j e)

pub numbers_none : (g : Tiling) (segments : List Seg) → AreTileNumbers g segments 0 []
numbers_none g segments = record { one_each = refl; each = λ k n e. absurd (cc) }

abbrev AreNumbersOf : Tiling → List Seg → ℕ → TileNumbers → Type 0
AreNumbersOf g segments k n = ∥ ((records : List Record) × IsPieceOf (Owns g k) segments n.hot records × (n.records ≡ length records)) ∥₁

numbers_more : (g : Tiling) (segments : List Seg) (k : ℕ) (tiles : List TileNumbers) (n : TileNumbers) → AreTileNumbers g segments k tiles → AreNumbersOf g segments k n → AreTileNumbers g segments (k + 1) (tiles ++ n ∷ [])
numbers_more g segments k tiles n h p = record {
  one_each = let e = h.one_each in let f = length_push tiles n in omega arith;
  each = λ j m e. ⊎_elim (λ q. h.each j m q.1) (λ q. last j m (q.0 ∙ h.one_each) q.1) (pushed_at tiles n m j e);
}
  where
    last : (j : ℕ) (m : TileNumbers) → j ≡ k → n ≡ m → AreNumbersOf g segments j m
    last j m e f = subst (λ (i : ℕ). AreNumbersOf g segments i m) (sym e) (subst (λ (x : TileNumbers). AreNumbersOf g segments k x) f p)

-- ---- all of it
pub gathered_none : {A : Type 0} (g : Tiling) (segments : List Seg) (held : List (Option (Piece A))) → AreGathered g segments held 0 [] [] 0
gathered_none g segments held = record {
  records_are = ∣ below_none g segments ∣₁;
  tiles_are = numbers_none g segments;
  remade_is = count_none (λ j. ¬ (HoldsOwn g segments held j));
  few = omega arith;
}

-- the piece of the next tile
pub tiles_more : (g : Tiling) (segments : List Seg) (k hot : ℕ) (records part : List Record) (tiles : List TileNumbers) → ∥ HasTilesBelow g segments k records ∥₁ → AreTileNumbers g segments k tiles → ∥ IsPieceOf (Owns g k) segments hot part ∥₁
    → ∥ HasTilesBelow g segments (k + 1) (records ++ part) ∥₁ × AreTileNumbers g segments (k + 1) (tiles ++ (record { hot = hot; records = length part }) ∷ [])
tiles_more g segments k hot records part tiles h t piece = (
  ∥∥₁_elim h (hlevel props) (λ a. ∥∥₁_map piece (λ p. below_more g segments k hot records part a p)),
  numbers_more g segments k tiles (record { hot = hot; records = length part }) t (∥∥₁_map piece (λ p. (part, p, refl))),
)

module _ {A : Type 0} (g : Tiling) (segments : List Seg) (held : List (Option (Piece A))) (k hot : ℕ) (records part : List Record) (tiles : List TileNumbers) (remade : ℕ)
    (h : AreGathered g segments held k records tiles remade) (piece : ∥ IsPieceOf (Owns g k) segments hot part ∥₁) where
  more : ∥ HasTilesBelow g segments (k + 1) (records ++ part) ∥₁ × AreTileNumbers g segments (k + 1) (tiles ++ (record { hot = hot; records = length part }) ∷ [])
  more = tiles_more g segments k hot records part tiles h.records_are h.tiles_are piece

  -- the book's piece
  pub gathered_held : HoldsOwn g segments held k → AreGathered g segments held (k + 1) (records ++ part) (tiles ++ (record { hot = hot; records = length part }) ∷ []) remade
  gathered_held own = record {
    records_are = more.0;
    tiles_are = more.1;
    remade_is = count_skip (λ j. ¬ (HoldsOwn g segments held j)) k remade h.remade_is (λ f. f own);
    few = let f = h.few in omega arith;
  }

  -- a new one
  pub gathered_made : ¬ (HoldsOwn g segments held k) → AreGathered g segments held (k + 1) (records ++ part) (tiles ++ (record { hot = hot; records = length part }) ∷ []) (remade + 1)
  gathered_made fails = record {
    records_are = more.0;
    tiles_are = more.1;
    remade_is = count_push (λ j. ¬ (HoldsOwn g segments held j)) k remade h.remade_is fails;
    few = let f = h.few in omega arith;
  }

-- a tile that was added, where nothing failed
pub on_ok_all : {T E : Type 0} (r : Result T E) (P Q R S : Type 0) → OnOk r P → OnOk r Q → OnOk r R → (P → Q → R → S) → OnOk r S
on_ok_all (Ok x) P Q R S p q s f = f p q s
on_ok_all (Err e) P Q R S p q s f = tt

-- as lists that were pushed to
pub gathered_as : {A : Type 0} (g : Tiling) (segments : List Seg) (held : List (Option (Piece A))) (k : ℕ) (records records' : List Record) (tiles tiles' : List TileNumbers) (remade remade' : ℕ) → records' ≡ records → tiles' ≡ tiles → remade' ≡ remade
    → AreGathered g segments held k records tiles remade → AreGathered g segments held k records' tiles' remade'
gathered_as g segments held k records records' tiles tiles' remade remade' e f n h = rw (e, f, n) h
