-- How many items lie in each tile, counted one after another, and what these counts are.
use Rattle.std.proofs.Common.{◌≡◌, ◌≢◌, ◌⊎◌, inl, inr, ℕ, zero, suc, ◌+◌, ◌*◌, ◌<◌, ◌≤◌, List, [], ◌∷◌, ◌++◌, length, get_or, map, take, refl, sym, ap, subst, ◌∙◌, arith, ⊎_elim, ◌↔◌}
use Rattle.std.proofs.Math.Logic.{∥∥₁_elim, ∥∥₁_map}
use Rattle.std.proofs.Props.{props}
use Rattle.std.proofs.lemmas.Bool.{cases_eq, cases_lt}
use Rattle.std.proofs.Math.ListN.{get_or-map}
use Rattle.std.proofs.lemmas.List.{get_or-append-add, get_or-replicate, get_or-set_other, get_or-set_same, get_or-take, get_or_default, length-append, length-map, length-replicate, length-set, length-take, take_all, take_at}
use Rattle.std.proofs.lemmas.List.Elements.{Contains-append_cases, Contains-append_left, Contains-append_right, Contains-get_or, Contains-push, Contains-push_cases}
use Rattle.std.proofs.lemmas.List.Quantifiers.{all_pairs_push}
use Rattle.std.proofs.lemmas.List.Sums.{sum_by_push}
use Rattle.std.proofs.lemmas.Option.{get_or_from_slice_get, slice_get-get_or, slice_get_within}
use Rattle.std.specs.Prelude.{ℤ, pos, negsuc, All, AllPairs, Contains, Some, replicate, slice_get, slice_set, sum_by}
use Rattle.geom.specs.declared.point.Pt.{Pt}
use Rattle.geom.specs.declared.segment.Seg.{Seg}
use Rattle.geom.specs.Hot.{IsHot}
use Rattle.geom.specs.Order.{IsBefore}
use Rattle.geom.proofs.Lists.{contains_in, in_contains, some_same}
use Rattle.geom.proofs.Orders.{before_itself}
use Rattle.grid.specs.Tiles.{HasTile, Owns, Tiling, steps, tile_count}
use Rattle.grid.proofs.Columns.{owner_is, pos_same}
use Rattle.hot_region.proofs.HotLaws.{hot_meets}
use Rattle.hot_region.proofs.ListLaws.{head_pair, here as first, in_cons, in_push, in_take_more, none_in, pairs_cons, tail_pairs}
use Rattle.routing.specs.declared.record.Record.{Record}
use Rattle.routing.specs.Pieces.{IsPartOf, IsPieceOf, IsRecord}
use Rattle.linking.specs.Ends.{ends_from}
use Rattle.linking.specs.Gathered.{AreTileNumbers, AreTileNumbersBy, HasInnerBelow, HasPartsBelow}
use Rattle.linking.specs.Links.{AreRecords, HasRecords, times_at}
use Rattle.linking.specs.Numbers.{AreNumbersOf, ArePaired, AreTileCounts, CountsMore, IsCountOf}
use Rattle.linking.specs.Shares.{AreInner}
use Rattle.linking.specs.declared.rounded.TileNumbers.{TileNumbers}
use Rattle.linking.proofs.EndLaws.{tiles_and_ends}
use Rattle.linking.proofs.Gathering.{AreCovered, owner_below}
use Rattle.linking.proofs.Ordering.{piece_of}
use Rattle.linking.proofs.Parts.{IsPart, distinct_from, sum_of_ones}

-- ---- one item after another
module _ {X : Type 0} (g : Tiling) (pixel_of : X → Pt) (weight : X → ℕ) (xs : List X) where
  pub counted_none : (counts : List ℕ) → counts ≡ replicate (tile_count g) 0 → AreTileCounts g pixel_of weight (take 0 xs) counts
  counted_none counts e = record {
    one_each = ap length e ∙ length-replicate (tile_count g) 0;
    each = λ k m at. record { those = []; once = λ i j d a b. absurd (omega (arith, b)); exact = λ x. ((λ h. absurd (none_in x h)), (λ h. absurd (none_in x h.0))); number_is = zero_at k m at };
  }
    where
      zero_at : (k m : ℕ) → slice_get counts k ≡ Some m → m ≡ 0
      zero_at k m at =
          let w = slice_get_within counts k m at in
          let s : length counts ≡ tile_count g = ap length e ∙ length-replicate (tile_count g) 0 in
          sym (get_or_from_slice_get counts k m 0 at) ∙ ap (λ (ns : List ℕ). get_or ns k 0) e ∙ get_or-replicate (tile_count g) k 0 0 (omega (arith, w, s))

  module _ (i k : ℕ) (x : X) (within : i < length xs) (is : x ≡ get_or xs i x) (once : AllPairs (λ x y. x ≢ y) xs) (owner : Owns g k (pixel_of x)) where
    -- it isn't among the earlier ones
    fresh : (y : X) → Contains (take i xs) y → y ≢ x
    fresh y (m, l, e) f =
        let t = length-take i xs in
        let b : m < i = omega (arith, l, t) in
        let c : get_or xs m y ≡ y = sym (get_or-take i xs m y b) ∙ e in
        once m i y b within (c ∙ f ∙ is ∙ same_default)
      where
        same_default : get_or xs i x ≡ get_or xs i y
        same_default = some_same (slice_get-get_or xs i x within) (slice_get-get_or xs i y within)

    here : (old : ℕ) → IsCountOf weight (take i xs) (λ y. Owns g k (pixel_of y)) old → IsCountOf weight (take (i + 1) xs) (λ y. Owns g k (pixel_of y)) (old + weight x)
    here old h = record {
      those = h.those ++ x ∷ [];
      once = all_pairs_push (λ y z. y ≢ z) h.those x h.once (λ m d l. fresh (get_or h.those m d) ((h.exact (get_or h.those m d)).0 (Contains-get_or h.those m d l)).0);
      exact = λ y. (
        (λ c. ⊎_elim (λ m. let a = (h.exact y).0 m in ((in_take_more xs i x within is y).1 (inl a.0), a.1)) (λ e. ((in_take_more xs i x within is y).1 (inr e), subst (λ (z : X). Owns g k (pixel_of z)) e owner)) (Contains-push_cases h.those x y c)),
        (λ c. ⊎_elim (λ m. in_push h.those y x ((h.exact y).1 (m, c.1))) (λ e. subst (λ (z : X). Contains (h.those ++ x ∷ []) z) e (Contains-push h.those x)) ((in_take_more xs i x within is y).0 c.0)),
      );
      number_is = let a = h.number_is in let b = sum_by_push weight h.those x in omega (arith, a, b);
    }

    elsewhere : (j n : ℕ) → ¬ (j ≡ k) → IsCountOf weight (take i xs) (λ y. Owns g j (pixel_of y)) n → IsCountOf weight (take (i + 1) xs) (λ y. Owns g j (pixel_of y)) n
    elsewhere j n other h = record {
      those = h.those;
      once = h.once;
      exact = λ y. (
        (λ c. let a = (h.exact y).0 c in ((in_take_more xs i x within is y).1 (inl a.0), a.1)),
        (λ c. ⊎_elim (λ m. (h.exact y).1 (m, c.1)) (λ e. absurd (other (owner_is g (pixel_of x) j k (subst (λ (z : X). Owns g j (pixel_of z)) (sym e) c.1) owner))) ((in_take_more xs i x within is y).0 c.0)),
      );
      number_is = h.number_is;
    }

    pub counted_more : (counts : List ℕ) (old new : ℕ) → AreTileCounts g pixel_of weight (take i xs) counts → slice_get counts k ≡ Some old → new ≡ old + weight x → AreTileCounts g pixel_of weight (take (i + 1) xs) (slice_set counts k new)
    counted_more counts old new h at e = record {
      one_each = length-set counts k new ∙ h.one_each;
      each = λ j n got. elim (cases_eq j k) [
        | inl same ↦ subst (λ (t : ℕ). IsCountOf weight (take (i + 1) xs) (λ y. Owns g t (pixel_of y)) n) (sym same)
            (subst (λ (t : ℕ). IsCountOf weight (take (i + 1) xs) (λ y. Owns g k (pixel_of y)) t) (sym e ∙ set_here n (subst (λ (t : ℕ). slice_get (slice_set counts k new) t ≡ Some n) same got)) (here old (h.each k old at)))
        | inr other ↦ elsewhere j n other (h.each j n (set_there j n other got))
      ];
    }
      where
        l : k < length counts
        l = slice_get_within counts k old at

        set_here : (n : ℕ) → slice_get (slice_set counts k new) k ≡ Some n → new ≡ n
        set_here n got = sym (get_or-set_same counts k new n l) ∙ get_or_from_slice_get (slice_set counts k new) k n n got

        set_there : (j n : ℕ) → ¬ (j ≡ k) → slice_get (slice_set counts k new) j ≡ Some n → slice_get counts j ≡ Some n
        set_there j n other got =
            let w = slice_get_within (slice_set counts k new) j n got in
            let s = length-set counts k new in
            let m : get_or counts j n ≡ n = sym (get_or-set_other counts k j new n other) ∙ get_or_from_slice_get (slice_set counts k new) j n n got in
            slice_get-get_or counts j n (omega (arith, w, s)) ∙ ap Some m

-- the same, of the tile that has so many more
pub counted_one : {X : Type 0} (g : Tiling) (pixel_of : X → Pt) (weight : X → ℕ) (xs : List X) (i : ℕ) (x : X) → i < length xs → x ≡ get_or xs i x → AllPairs (λ x y. x ≢ y) xs → (counts more : List ℕ) (times : ℕ) → times ≡ weight x → CountsMore g (pixel_of x) times counts more
    → AreTileCounts g pixel_of weight (take i xs) counts → AreTileCounts g pixel_of weight (take (i + 1) xs) more
counted_one g pixel_of weight xs i x within is once counts more times same h k =
    subst (λ (ns : List ℕ). AreTileCounts g pixel_of weight (take (i + 1) xs) ns) (sym h.new_is) (counted_more g pixel_of weight xs i h.tile x within is once h.owner counts h.count (h.count + times) k h.is_at (ap (λ (n : ℕ). h.count + n) same))

-- ---- points behind those that are counted
module _ (g : Tiling) (points : List Pt) (old : List ℕ) where
  -- whatever was counted is counted with the first i points behind it
  abbrev pub AreCountedTo : ℕ → List ℕ → Type 0
  AreCountedTo i counts = (done : List Pt) → AllPairs (λ p q. p ≢ q) (done ++ points) → AreTileCounts g (λ p. p) (λ p. 1) done old → AreTileCounts g (λ p. p) (λ p. 1) (take (length done + i) (done ++ points)) counts

  pub counted_to_none : AreCountedTo 0 old
  counted_to_none done once h = subst (λ (ps : List Pt). AreTileCounts g (λ p. p) (λ p. 1) ps old) (sym (take_at done points (length done + 0) (omega arith))) h

  pub counted_to_more : (i : ℕ) (p : Pt) → i < length points → p ≡ get_or points i p → (counts more : List ℕ) → CountsMore g p 1 counts more → AreCountedTo i counts → AreCountedTo (i + 1) more
  counted_to_more i p within is counts more one counted done once h =
      let size = length-append done points in
      let next : length done + i + 1 ≡ length done + (i + 1) = omega arith in
      subst (λ (n : ℕ). AreTileCounts g (λ p. p) (λ p. 1) (take n (done ++ points)) more) next
      (counted_one g (λ p. p) (λ p. 1) (done ++ points) (length done + i) p (omega (arith, within, size)) (is ∙ sym (get_or-append-add done points i p)) once counts more 1 refl one (counted done once h))

  pub counted_to_all : (i : ℕ) → length points ≤ i → (counts : List ℕ) → AreCountedTo i counts → (done : List Pt) → AllPairs (λ p q. p ≢ q) (done ++ points) → AreTileCounts g (λ p. p) (λ p. 1) done old → AreTileCounts g (λ p. p) (λ p. 1) (done ++ points) counts
  counted_to_all i past counts counted done once h =
      let size = length-append done points in
      subst (λ (ps : List Pt). AreTileCounts g (λ p. p) (λ p. 1) ps counts) (take_all (length done + i) (done ++ points) (omega (arith, past, size))) (counted done once h)

-- ---- both counts
pub paired_are : (g : Tiling) (pixels : List Pt) (weight : Record → ℕ) (records : List Record) (hot found : List ℕ) (tiles : List TileNumbers) → AreTileCounts g (λ p. p) (λ p. 1) pixels hot → AreTileCounts g (λ r. r.pixel) weight records found → ArePaired hot found tiles → AreNumbersOf g pixels weight records tiles
paired_are g pixels weight records hot found tiles h k p = record {
  one_each = p.one_each ∙ h.one_each;
  each = λ j n at. let a = p.each j n at in (h.each j n.hot a.0, k.each j n.records a.1);
}

-- ---- the pieces of all cells
pub pairs_append : {X : Type 0} (R : X → X → Type 0) (xs ys : List X) → AllPairs R xs → AllPairs R ys → ((x y : X) → Contains xs x → Contains ys y → R x y) → AllPairs R (xs ++ ys)
pairs_append R [] ys h k apart = k
pairs_append R (x ∷ xs) ys h k apart = pairs_cons R x (xs ++ ys)
    (λ c m. ⊎_elim (λ a. head_pair R x xs c h a) (λ b. apart x c (first x xs) b) (Contains-append_cases xs ys c m))
    (pairs_append R xs ys (tail_pairs R x xs h) k (λ c e a b. apart c e (in_cons x xs c a) b))

pub parts_none : (g : Tiling) (segments : List Seg) → HasPartsBelow g segments 0 [] []
parts_none g segments = record {
  once = λ i j d a b. absurd (omega (arith, b));
  hot = λ p. (λ h. absurd (none_in p h), λ h. absurd (let l = h.1.1 in omega arith));
  has = record { same = λ r. (λ h. absurd (none_in r h), λ h. absurd (let l = h.1.1 in omega arith)) };
}

pub parts_more : (g : Tiling) (segments : List Seg) (k : ℕ) (pixels more_pixels : List Pt) (records more_records : List Record) → HasPartsBelow g segments k pixels records → IsPartOf (Owns g k) segments more_pixels more_records
    → HasPartsBelow g segments (k + 1) (pixels ++ more_pixels) (records ++ more_records)
parts_more g segments k pixels more_pixels records more_records h p = record { once = once; hot = λ c. (to c, from c); has = has }
  where
    weak : (j : ℕ) → j < k → j < k + 1
    weak j l = omega arith

    last : k < k + 1
    last = omega arith

    to : (c : Pt) → Contains (pixels ++ more_pixels) c → IsHot segments c × ((j : ℕ) × (j < k + 1) × Owns g j c)
    to c m = ⊎_elim (λ i. let a = (h.hot c).0 i in (a.0, (a.1.0, weak a.1.0 a.1.1, a.1.2))) (λ i. let a = (p.are_hot.exact c).0 i in (a.0, (k, last, a.1))) (Contains-append_cases pixels more_pixels c m)

    from : (c : Pt) → IsHot segments c × ((j : ℕ) × (j < k + 1) × Owns g j c) → Contains (pixels ++ more_pixels) c
    from c (is, (j, l, o)) = ⊎_elim
        (λ m. Contains-append_left pixels more_pixels c ((h.hot c).1 (is, (j, m, o))))
        (λ m. Contains-append_right pixels more_pixels c ((p.are_hot.exact c).1 (is, (let e : j ≡ k = omega arith in subst (λ (n : ℕ). Owns g n c) e o))))
        (cases_lt j k)

    has : HasInnerBelow g segments (k + 1) (records ++ more_records)
    has = record {
      same = λ r. (
        (λ c. ⊎_elim (λ m. let n = (h.has.same r).0 m in (n.0, (n.1.0, weak n.1.0 n.1.1, n.1.2))) (λ m. let n = (p.exact r).0 m in (n.0, (k, last, n.1))) (Contains-append_cases records more_records r c)),
        (λ (is, (j, l, o)). ⊎_elim
            (λ m. Contains-append_left records more_records r ((h.has.same r).1 (is, (j, m, o))))
            (λ m. Contains-append_right records more_records r ((p.exact r).1 (is, (let e : j ≡ k = omega arith in subst (λ (n : ℕ). Owns g n r.pixel) e o))))
            (cases_lt j k)),
      );
    }

    -- no pixel of the next cell is one of the earlier ones
    apart : (c e : Pt) → Contains pixels c → Contains more_pixels e → c ≢ e
    apart c e a b f =
        let (i, (j, l, o)) = (h.hot c).0 a in
        let own = ((p.are_hot.exact e).0 b).1 in
        let same = owner_is g c j k o (subst (λ (q : Pt). Owns g k q) (sym f) own) in
        omega (arith, l, same)

    once : AllPairs (λ c e. c ≢ e) (pixels ++ more_pixels)
    once = pairs_append (λ c e. c ≢ e) pixels more_pixels h.once (λ i j d a b e. before_itself (get_or more_pixels i d) (subst (λ (q : Pt). IsBefore (get_or more_pixels i d) q) (sym e) (p.are_hot.ascending i j d a b))) apart

-- ---- how often the records of a segment count
pub times_at_is : {M : Type 0} (times_of : M → ℕ) (makers : List M) (k : ℕ) (maker : M) → slice_get makers k ≡ Some maker → times_at times_of makers k ≡ times_of maker
times_at_is times_of makers k maker at =
    get_or_default (map times_of makers) k 0 (times_of maker) (rw (length-map makers times_of) (slice_get_within makers k maker at)) ∙ get_or-map times_of makers k maker ∙ ap times_of (get_or_from_slice_get makers k maker maker at)

module _ {M : Type 0} (times_of : M → ℕ) (one : (maker : M) → times_of maker ≡ 1) where
  times_one : (makers : List M) (k : ℕ) → k < length makers → times_at times_of makers k ≡ 1
  times_one [] k l = absurd (omega arith)
  times_one (maker ∷ makers) zero l = one maker
  times_one (maker ∷ makers) (suc k) l = times_one makers k (omega arith)

  -- where each counts once
  pub numbers_once : (g : Tiling) (segments : List Seg) (makers : List M) (limit : ℕ) (tiles : List TileNumbers) → length makers ≡ length segments → AreTileNumbersBy times_of g segments makers limit tiles → AreTileNumbers g segments limit tiles
  numbers_once g segments makers limit tiles size h = record { one_each = h.one_each; each = λ k n at. ∥∥₁_elim (h.each k n at) (hlevel props) (λ (records, piece, is). ∣ (records, piece, is ∙ lone k n.hot records piece) ∣₁) }
    where
      lone : (k hot : ℕ) (records : List Record) → IsPieceOf (Owns g k) segments hot records → sum_by (λ r. times_at times_of makers r.segment) records ≡ length records
      lone k hot records piece = sum_of_ones (λ r. times_at times_of makers r.segment) records (λ r i.
          let is = ((piece.exact r).0 (in_contains records r i)).0 in
          let l = slice_get_within segments r.segment is.s is.is_at in
          times_one makers r.segment (omega (arith, size, l)))

-- ---- the numbers of the tiles of a grid
module _ {M : Type 0} (times_of : M → ℕ) (makers : List M) where
  abbrev weight_of : Record → ℕ
  weight_of r = times_at times_of makers r.segment

  module _ (g : Tiling) (segments : List Seg) (pixels : List Pt) (records : List Record) (hot : (p : Pt) → Contains pixels p ↔ IsHot segments p) (are : AreRecords segments records) where
    pub numbers_are : (tiles : List TileNumbers) → AreNumbersOf g pixels (λ r. times_at times_of makers r.segment) records tiles → AreTileNumbersBy times_of g segments makers (tile_count g) tiles
    numbers_are tiles h = record { one_each = h.one_each; each = λ k n at. ∣ told k n (h.each k n at) ∣₁ }
      where
        part : {X : Type 0} (weight : X → ℕ) (Is Owned : X → Type 0) (xs : List X) (n : ℕ) → ((x : X) → Contains xs x ↔ Is x) → (c : IsCountOf weight xs Owned n) → IsPart Is Owned (length c.those)
        part weight Is Owned xs n exact c = record {
          those = c.those;
          distinct = distinct_from (λ x y. x ≢ y) c.those c.once (λ x i no. no refl);
          is = λ x i. (exact x).0 ((c.exact x).0 (in_contains c.those x i)).0;
          owned = λ x i. ((c.exact x).0 (in_contains c.those x i)).1;
          all = λ x i o. contains_in c.those x ((c.exact x).1 ((exact x).1 i, o));
          number_is = refl;
        }

        told : (k : ℕ) (n : TileNumbers) → IsCountOf (λ p. 1) pixels (Owns g k) n.hot × IsCountOf weight_of records (λ r. Owns g k r.pixel) n.records → (list : List Record) × IsPieceOf (Owns g k) segments n.hot list × (n.records ≡ sum_by (λ r. times_at times_of makers r.segment) list)
        told k n (a, b) =
            let hot_is : length a.those ≡ n.hot = sym (a.number_is ∙ sum_of_ones (λ p. 1) a.those (λ p i. refl)) in
            let p = piece_of segments (Owns g k) (length a.those) (length b.those) (part (λ p. 1) (IsHot segments) (Owns g k) pixels n.hot hot a) (part weight_of (IsRecord segments) (λ r. Owns g k r.pixel) records n.records are.exact b) in
            (p.records, subst (λ (m : ℕ). IsPieceOf (Owns g k) segments m p.records) hot_is p.is_piece, b.number_is ∙ p.sum_is weight_of)

-- ---- what is known of the pieces' items, though not of which pieces
column_of : (z : ℤ) → ((n : ℕ) × (z ≡ pos n)) ⊎ ((n : ℕ) → z ≡ pos n → ⊥)
column_of (pos n) = inl (n, refl)
column_of (negsuc n) = inr (λ m e. absurd (cc))

has_tile : (g : Tiling) (p : Pt) → HasTile g p ⊎ (HasTile g p → ⊥)
has_tile g p = ⊎_elim (λ (a, e). ⊎_elim (λ (b, f). known a b e f) (λ no. inr (λ (k, o). no o.row o.row_is)) (column_of (steps g.bottom g.side p.y))) (λ no. inr (λ (k, o). no o.column o.column_is)) (column_of (steps g.left g.side p.x))
  where
    known : (a b : ℕ) → steps g.left g.side p.x ≡ pos a → steps g.bottom g.side p.y ≡ pos b → HasTile g p ⊎ (HasTile g p → ⊥)
    known a b e f = elim (cases_lt a g.columns) [
      | inl across ↦ elim (cases_lt b g.rows) [
        | inl up ↦ inl (b * g.columns + a, record { column = a; row = b; column_is = e; row_is = f; in_columns = across; in_rows = up; number_is = refl })
        | inr above ↦ inr (λ (k, o). let s = pos_same _ _ (sym o.row_is ∙ f) in let l = o.in_rows in absurd (omega (arith, s, l, above)))
      ]
      | inr beyond ↦ inr (λ (k, o). let s = pos_same _ _ (sym o.column_is ∙ e) in let l = o.in_columns in absurd (omega (arith, s, l, beyond)))
    ]

pub known_tile : (g : Tiling) (p : Pt) → ∥ HasTile g p ∥₁ → HasTile g p
known_tile g p h = ⊎_elim (λ t. t) (λ no. absurd (∥∥₁_elim h (hlevel props) no)) (has_tile g p)

-- of the cells and the segments by their other names
pub known_parts : (g h : Tiling) (segments others : List Seg) (n : ℕ) (pixels : List Pt) (records : List Record) → g ≡ h → segments ≡ others → n ≡ tile_count g → ∥ HasPartsBelow h others n pixels records ∥₁ → ∥ HasPartsBelow g segments (tile_count g) pixels records ∥₁
known_parts g h segments others n pixels records e f k all = subst (λ (x : Tiling × List Seg × ℕ). ∥ HasPartsBelow x.0 x.1 x.2 pixels records ∥₁) (λ i. (sym e i, sym f i, k i)) all

-- the pieces of all cells f, over a grid g
module _ (f g : Tiling) (segments : List Seg) (pixels : List Pt) (found : List Record) (cells : AreCovered f segments) (tiles : AreCovered g segments) (all : ∥ HasPartsBelow f segments (tile_count f) pixels found ∥₁) where
  hot_are : HasPartsBelow f segments (tile_count f) pixels found → (p : Pt) → Contains pixels p ↔ IsHot segments p
  hot_are h p = (λ m. ((h.hot p).0 m).0, λ i. let m = hot_meets segments p i in let t = cells.tile m.0 p m.1 m.2 in (h.hot p).1 (i, (t.0, owner_below f t.0 p t.1, t.1)))

  tile_of : (p : Pt) → IsHot segments p → HasTile g p
  tile_of p i = let m = hot_meets segments p i in tiles.tile m.0 p m.1 m.2

  pub pixels_in : All (λ p. HasTile g p) pixels
  pixels_in k d l = known_tile g (get_or pixels k d) (∥∥₁_map all (λ h. tile_of _ ((hot_are h _).0 (Contains-get_or pixels k d l))))

  pub pixels_once : AllPairs (λ p q. p ≢ q) pixels
  pixels_once = ∥∥₁_elim all (hlevel props) (λ h. h.once)

  pub all_inner : AreInner segments found
  all_inner r m = ∥∥₁_map all (λ h. ((h.has.same r).0 m).0)

  module _ (records : List Record) (order : HasRecords segments (found ++ ends_from 0 segments) → AreRecords segments records) where
    records_are : HasPartsBelow f segments (tile_count f) pixels found → AreRecords segments records
    records_are h = order (tiles_and_ends f segments found cells h.has)

    pub all_records : ∥ AreRecords segments records ∥₁
    all_records = ∥∥₁_map all records_are

    pub all_numbers : {M : Type 0} (times_of : M → ℕ) (makers : List M) (ps : List Pt) (rs : List Record) (told : List TileNumbers) → ps ≡ pixels → rs ≡ records → AreNumbersOf g ps (λ r. times_at times_of makers r.segment) rs told → AreTileNumbersBy times_of g segments makers (tile_count g) told
    all_numbers times_of makers ps rs told d e h = let n = subst (λ (x : List Pt × List Record). AreNumbersOf g x.0 (λ r. times_at times_of makers r.segment) x.1 told) (λ i. (d i, e i)) h in record {
      one_each = n.one_each;
      each = λ k m at. ∥∥₁_elim all (hlevel props) (λ a. (numbers_are times_of makers g segments pixels records (hot_are a) (records_are a) told n).each k m at);
    }
