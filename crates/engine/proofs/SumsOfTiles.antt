-- Every hot pixel and every record belongs to one tile: so the sums over all tiles are the same for every grid.
use Rattle.std.proofs.Common.{◌≡◌, inl, inr, ℕ, suc, ◌+◌, ◌<◌, ◌≤◌, List, [], ◌∷◌, ◌++◌, length, map, refl, sym, ap₂, subst, ◌∙◌, arith, ⊎_elim, sum_by}
use Rattle.std.proofs.Math.Logic.{∥∥₁_elim, ∥∥₁_map}
use Rattle.std.proofs.Props.{props}
use Rattle.std.proofs.lemmas.Bool.{cases_lt}
use Rattle.std.proofs.lemmas.List.{length-append}
use Rattle.std.proofs.lemmas.List.Elements.{Contains-append_left, Contains-append_right}
use Rattle.std.proofs.lemmas.List.Sums.{sum_by-cons}
use Rattle.std.specs.Prelude.{Some, slice_get}
use Rattle.geom.specs.declared.point.Pt.{Pt}
use Rattle.geom.specs.declared.segment.Seg.{Seg}
use Rattle.geom.specs.Hot.{IsHot}
use Rattle.geom.specs.Order.{IsBefore}
use Rattle.geom.proofs.Along.{before_irrefl}
use Rattle.geom.proofs.Lists.{In, contains_in, in_append, in_contains}
use Rattle.geom.proofs.Orders.{before_itself}
use Rattle.geom.proofs.RouteLaws.{order_by_earlier}
use Rattle.grid.specs.Tiles.{Owns, Tiling, tile_count}
use Rattle.grid.proofs.Columns.{owner_is}
use Rattle.hot_region.proofs.HotLaws.{hot_meets}
use Rattle.routing.specs.declared.record.Record.{Record}
use Rattle.routing.specs.Pieces.{IsAlong, IsPieceOf, IsRecord}
use Rattle.linking.specs.Gathered.{AreTileNumbers}
use Rattle.linking.specs.declared.rounded.TileNumbers.{TileNumbers}
use Rattle.linking.proofs.Gathering.{AreCovered, owner_below}
use Rattle.linking.proofs.Parts.{IsPart, distinct_append, distinct_from, same_length}

-- one of m tiles from k on owns x
pub record IsOwnedFrom {X : Type 0} (Owned : ℕ → X → Type 0) (k m : ℕ) (x : X) : Type 0 where
  pub tile : ℕ
  pub from : k ≤ tile
  pub below : tile < k + m
  pub owned : Owned tile x

module _ {X : Type 0} (Is : X → Type 0) (Owned : ℕ → X → Type 0) (one_owner : (x : X) (j k : ℕ) → Owned j x → Owned k x → j ≡ k) where
  none : (k : ℕ) → IsPart Is (IsOwnedFrom Owned k 0) 0
  none k = record { those = []; distinct = tt; is = λ x i. absurd i; owned = λ x i. absurd i; all = λ x h o. absurd (never x o); number_is = refl }
    where
      never : (x : X) → IsOwnedFrom Owned k 0 x → ⊥
      never x o = let l = o.from in let m = o.below in omega (arith, l, m)

  more : (k n m total : ℕ) → IsPart Is (Owned k) n → IsPart Is (IsOwnedFrom Owned (suc k) m) total → (sum : ℕ) → sum ≡ n + total → IsPart Is (IsOwnedFrom Owned k (suc m)) sum
  more k n m total p q sum e = record {
    those = p.those ++ q.those;
    distinct = distinct_append p.those q.those p.distinct q.distinct apart;
    is = λ x i. ⊎_elim (p.is x) (q.is x) (in_append p.those q.those x i);
    owned = λ x i. ⊎_elim (here x) (there x) (in_append p.those q.those x i);
    all = found;
    number_is = let a = p.number_is in let b = q.number_is in let c = length-append p.those q.those in omega (arith, a, b, c, e);
  }
    where
      apart : (z : X) → In z p.those → In z q.those → ⊥
      apart z i j = let o = q.owned z j in let s = one_owner z k o.tile (p.owned z i) o.owned in let l = o.from in omega (arith, s, l)

      here : (x : X) → In x p.those → IsOwnedFrom Owned k (suc m) x
      here x i = record { tile = k; from = omega arith; below = omega arith; owned = p.owned x i }

      there : (x : X) → In x q.those → IsOwnedFrom Owned k (suc m) x
      there x i = let o = q.owned x i in let a = o.from in let b = o.below in record { tile = o.tile; from = omega (arith, a); below = omega (arith, b); owned = o.owned }

      first : (x : X) → Is x → Owned k x → In x (p.those ++ q.those)
      first x h o = contains_in (p.those ++ q.those) x (Contains-append_left p.those q.those x (in_contains p.those x (p.all x h o)))

      later : (x : X) → Is x → IsOwnedFrom Owned (suc k) m x → In x (p.those ++ q.those)
      later x h o = contains_in (p.those ++ q.those) x (Contains-append_right p.those q.those x (in_contains q.those x (q.all x h o)))

      found : (x : X) → Is x → IsOwnedFrom Owned k (suc m) x → In x (p.those ++ q.those)
      found x h o = let a = o.from in let b = o.below in ⊎_elim
          (λ l. later x h (record { tile = o.tile; from = omega (arith, l); below = omega (arith, b); owned = o.owned }))
          (λ l. let s : o.tile ≡ k = omega (arith, a, l) in first x h (subst (λ (t : ℕ). Owned t x) s o.owned))
          (cases_lt k o.tile)

  assembled : (k : ℕ) (tiles : List TileNumbers) (number : TileNumbers → ℕ) → ((j : ℕ) (n : TileNumbers) → slice_get tiles j ≡ Some n → ∥ IsPart Is (Owned (k + j)) (number n) ∥₁)
      → ∥ IsPart Is (IsOwnedFrom Owned k (length tiles)) (sum_by number tiles) ∥₁
  assembled k [] number each = ∣ none k ∣₁
  assembled k (t ∷ ts) number each = with_rest (assembled (suc k) ts number (λ j n e. subst (λ (i : ℕ). ∥ IsPart Is (Owned i) (number n) ∥₁) (at_next k j) (each (suc j) n e)))
    where
      at_first : (k : ℕ) → k + 0 ≡ k
      at_first k = omega arith

      at_next : (k j : ℕ) → k + suc j ≡ suc k + j
      at_next k j = omega arith

      with_rest : ∥ IsPart Is (IsOwnedFrom Owned (suc k) (length ts)) (sum_by number ts) ∥₁ → ∥ IsPart Is (IsOwnedFrom Owned k (length (t ∷ ts))) (sum_by number (t ∷ ts)) ∥₁
      with_rest rest = ∥∥₁_elim (each 0 t refl) (hlevel props) (λ p. ∥∥₁_map rest (λ q.
          more k (number t) (length ts) (sum_by number ts) (subst (λ (i : ℕ). IsPart Is (Owned i) (number t)) (at_first k) p) q (sum_by number (t ∷ ts)) (sum_by-cons number t ts)))

-- two divisions of one whole have one sum
same_sum : {X : Type 0} (Is One Other : X → Type 0) (m n : ℕ) → IsPart Is One m → IsPart Is Other n → ((x : X) → Is x → One x) → ((x : X) → Is x → Other x) → m ≡ n
same_sum Is One Other m n p q f g = p.number_is ∙ same_length p.those q.those p.distinct q.distinct (λ z i. let h = p.is z i in q.all z h (g z h)) (λ z i. let h = q.is z i in p.all z h (f z h)) ∙ sym q.number_is

-- ---- hot pixels and records
abbrev pub Has : Tiling → ℕ → Record → Type 0
Has g k r = Owns g k r.pixel

module _ (g : Tiling) (segments : List Seg) (k : ℕ) (hot : ℕ) (records : List Record) (p : IsPieceOf (Owns g k) segments hot records) where
  pub hot_part : IsPart (IsHot segments) (Owns g k) hot
  hot_part = record {
    those = p.pixels;
    distinct = distinct_from IsBefore p.pixels p.are_hot.ascending (λ x i h. before_itself x h);
    is = λ x i. ((p.are_hot.exact x).0 (in_contains p.pixels x i)).0;
    owned = λ x i. ((p.are_hot.exact x).0 (in_contains p.pixels x i)).1;
    all = λ x h o. contains_in p.pixels x ((p.are_hot.exact x).1 (h, o));
    number_is = p.hot_is;
  }

  not_along : (r : Record) → In r records → IsAlong segments r r → ⊥
  not_along r i (inl l) = omega (arith, l)
  not_along r i (inr h) =
      let is = ((p.exact r).0 (in_contains records r i)).0 in
      before_irrefl _ r.pixel (order_by_earlier is.s r.pixel r.pixel is.met is.met (h.1 is.s is.is_at))

  pub record_part : (n : ℕ) → n ≡ length records → IsPart (IsRecord segments) (Has g k) n
  record_part n e = record {
    those = records;
    distinct = distinct_from (IsAlong segments) records p.ordered not_along;
    is = λ x i. ((p.exact x).0 (in_contains records x i)).0;
    owned = λ x i. ((p.exact x).0 (in_contains records x i)).1;
    all = λ x h o. contains_in records x ((p.exact x).1 (h, o));
    number_is = e;
  }

from_zero : (j : ℕ) → j ≡ 0 + j
from_zero j = omega arith

module _ (g : Tiling) (segments : List Seg) (tiles : List TileNumbers) (h : AreTileNumbers g segments (tile_count g) tiles) (c : AreCovered g segments) where
  pub all_hot : ∥ IsPart (IsHot segments) (IsOwnedFrom (Owns g) 0 (length tiles)) (sum_by (λ t. t.hot) tiles) ∥₁
  all_hot = assembled (IsHot segments) (Owns g) (λ x j k. owner_is g x j k) 0 tiles (λ (t : TileNumbers). t.hot)
      (λ j n e. subst (λ (i : ℕ). ∥ IsPart (IsHot segments) (Owns g i) n.hot ∥₁) (from_zero j) (∥∥₁_map (h.each j n e) (λ (records, p, count). hot_part g segments j n.hot records p)))

  pub all_records : ∥ IsPart (IsRecord segments) (IsOwnedFrom (Has g) 0 (length tiles)) (sum_by (λ t. t.records) tiles) ∥₁
  all_records = assembled (IsRecord segments) (Has g) (λ x j k. owner_is g x.pixel j k) 0 tiles (λ (t : TileNumbers). t.records)
      (λ j n e. subst (λ (i : ℕ). ∥ IsPart (IsRecord segments) (Has g i) n.records ∥₁) (from_zero j) (∥∥₁_map (h.each j n e) (λ (records, p, count). record_part g segments j n.hot records p n.records count)))

  below : (k : ℕ) (p : Pt) → Owns g k p → k < 0 + length tiles
  below k p o = let l = owner_below g k p o in let e = h.one_each in omega (arith, l, e)

  pub hot_owned : (p : Pt) → IsHot segments p → IsOwnedFrom (Owns g) 0 (length tiles) p
  hot_owned p i =
      let m = hot_meets segments p i in
      let t = c.tile m.0 p m.1 m.2 in
      record { tile = t.0; from = omega arith; below = below t.0 p t.1; owned = t.1 }

  pub record_owned : (r : Record) → IsRecord segments r → IsOwnedFrom (Has g) 0 (length tiles) r
  record_owned r i = let o = hot_owned r.pixel i.hot in record { tile = o.tile; from = o.from; below = o.below; owned = o.owned }

number_prop : (m n : ℕ) → IsProp (m ≡ n)
number_prop m n = hlevel props

module _ (g f : Tiling) (segments : List Seg) (tiles others : List TileNumbers) (h : AreTileNumbers g segments (tile_count g) tiles) (k : AreTileNumbers f segments (tile_count f) others)
    (c : AreCovered g segments) (d : AreCovered f segments) where
  -- the hot pixels of all tiles are as many over every grid
  pub one_hot : sum_by (λ t. t.hot) tiles ≡ sum_by (λ t. t.hot) others
  one_hot = ∥∥₁_elim (all_hot g segments tiles h c) (number_prop _ _) (λ p. ∥∥₁_elim (all_hot f segments others k d) (number_prop _ _)
      (λ q. same_sum (IsHot segments) _ _ _ _ p q (hot_owned g segments tiles h c) (hot_owned f segments others k d)))

  -- and so are the records
  pub one_records : sum_by (λ t. t.records) tiles ≡ sum_by (λ t. t.records) others
  one_records = ∥∥₁_elim (all_records g segments tiles h c) (number_prop _ _) (λ p. ∥∥₁_elim (all_records f segments others k d) (number_prop _ _)
      (λ q. same_sum (IsRecord segments) _ _ _ _ p q (record_owned g segments tiles h c) (record_owned f segments others k d)))

-- ---- the numbers of one tile
same_part : {X : Type 0} (Is One Other : X → Type 0) (m n : ℕ) → IsPart Is One m → IsPart Is Other n → ((x : X) → One x → Other x) → ((x : X) → Other x → One x) → m ≡ n
same_part Is One Other m n p q f g = p.number_is ∙ same_length p.those q.those p.distinct q.distinct (λ z i. q.all z (p.is z i) (f z (p.owned z i))) (λ z i. p.all z (q.is z i) (g z (q.owned z i))) ∙ sym q.number_is

abbrev numbers_of : TileNumbers → ℕ × ℕ
numbers_of t = (t.hot, t.records)

told_prop : (t u : TileNumbers) → IsProp (numbers_of t ≡ numbers_of u)
told_prop t u = hlevel props

same_told : (ts us : List TileNumbers) → length ts ≡ length us → ((j : ℕ) (t u : TileNumbers) → slice_get ts j ≡ Some t → slice_get us j ≡ Some u → numbers_of t ≡ numbers_of u) → map numbers_of ts ≡ map numbers_of us
same_told [] [] l f = refl
same_told [] (u ∷ us) l f = absurd (omega (arith, l))
same_told (t ∷ ts) [] l f = absurd (omega (arith, l))
same_told (t ∷ ts) (u ∷ us) l f = ap₂ (λ (x : ℕ × ℕ) (xs : List (ℕ × ℕ)). x ∷ xs) (f 0 t u refl refl) (same_told ts us (omega (arith, l)) (λ j x y d e. f (suc j) x y d e))

module _ (g f : Tiling) (segments : List Seg) (tiles others : List TileNumbers) (h : AreTileNumbers g segments (tile_count g) tiles) (k : AreTileNumbers f segments (tile_count f) others)
    (count : tile_count g ≡ tile_count f) (to : (j : ℕ) (p : Pt) → Owns g j p → Owns f j p) (from : (j : ℕ) (p : Pt) → Owns f j p → Owns g j p) where
  one_tile : (j : ℕ) (t u : TileNumbers) → slice_get tiles j ≡ Some t → slice_get others j ≡ Some u → numbers_of t ≡ numbers_of u
  one_tile j t u d e = ∥∥₁_elim (h.each j t d) (told_prop t u) (λ (rs, p, m). ∥∥₁_elim (k.each j u e) (told_prop t u) (λ (us, q, n).
      ap₂ (λ (x y : ℕ). (x, y))
      (same_part (IsHot segments) _ _ _ _ (hot_part g segments j t.hot rs p) (hot_part f segments j u.hot us q) (to j) (from j))
      (same_part (IsRecord segments) _ _ _ _ (record_part g segments j t.hot rs p t.records m) (record_part f segments j u.hot us q u.records n) (λ r o. to j r.pixel o) (λ r o. from j r.pixel o))))

  -- where two grids have the same tiles, each tile's numbers are the same
  pub one_told : map numbers_of tiles ≡ map numbers_of others
  one_told = same_told tiles others (h.one_each ∙ count ∙ sym k.one_each) one_tile
