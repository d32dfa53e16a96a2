-- Bins of some of a grid's rows: which tiles these are, what a box more changes, and rows put behind rows.
use Rattle.std.proofs.Common.{◌≡◌, ◌⊎◌, inl, inr, ℕ, suc, ◌+◌, ◌-◌, ◌*◌, ◌/◌, ◌%◌, ◌<◌, ◌≤◌, ◌++◌, ◌∷◌, [], List, length, get_or, refl, sym, ap, ◌∙◌, subst, arith, ⊎_elim, ℤ, pos, ◌+ℤ◌, set, true, eqb}
use Rattle.std.specs.Prelude.{◌↔◌, ◌≤ℤ◌, ◌<ℤ◌, ◌&&◌, min}
use Rattle.std.specs.declared.vec.Vec.{Vec}
use Rattle.std.proofs.Math.Nat.{mod-lt}
use Rattle.std.proofs.lemmas.Bool.{and_parts, cases_lt, eqb-true}
use Rattle.std.proofs.lemmas.Int.{clamps, ints}
use Rattle.std.proofs.lemmas.List.{get_or-append_right, get_or_append_left, length-append, length-map, map-append}
use Rattle.std.proofs.lemmas.Nat.{div-add-mod', div-mul-add, mod-mul-add, mul-le}
use Rattle.geom.specs.declared.point.Pt.{Pt}
use Rattle.geom.specs.declared.rect.Rect.{Rect}
use Rattle.geom.proofs.Numbers.{itself}
use Rattle.grid.specs.Bins.{AreBins, AreGiven, AreRowBins, HasPointOf, IsAmong, IsBin, TileBins, TileRows, lists_of}
use Rattle.grid.specs.Tiles.{HasTile, IsPlaced, Owns, Tiling, tile_count}
use Rattle.grid.proofs.Columns.{IsColumnOf, column_from_steps, row_below, some_columns}
use Rattle.grid.proofs.Giving.{among, bin_given, bin_kept, decided, given_one, given_same, meets}

-- ---- the tiles of the rows

-- tile k of the rows stands in column k % width, and in row k / width from the first on
module _ (width from rows k : ℕ) (l : k < rows * width) where
  place : from * width + k ≡ (from + k / width) * width + k % width
  place = let d = div-add-mod' k width in let e : (from + k / width) * width ≡ from * width + k / width * width = omega arith in omega (arith, d, e)

  column_in : k % width < width
  column_in = mod-lt k (some_columns k rows width l)

  pub same_column : (from * width + k) % width ≡ k % width
  same_column = ap (λ n. n % width) place ∙ mod-mul-add (from + k / width) width (k % width) column_in

  pub row_of : (from * width + k) / width ≡ from + k / width
  row_of = ap (λ n. n / width) place ∙ div-mul-add (from + k / width) width (k % width) column_in

  pub below : k / width < rows
  below = row_below k rows width l

  -- a block of the grid, cut to the rows
  pub cut : (columns : ℕ × ℕ) (low high : ℕ) → IsAmong width columns (low - from, min (high - from) rows) k ↔ IsAmong width columns (low, high) (from * width + k)
  cut columns low high =
      let c = same_column in
      let r = row_of in
      let b = below in (
        λ h. let s = h.left in let t = h.right in let u = h.bottom in let v = h.top in
            record { left = omega (arith, c, s); right = omega (arith, c, t); bottom = omega (arith, r, u); top = omega (arith, clamps, r, v) },
        λ h. let s = h.left in let t = h.right in let u = h.bottom in let v = h.top in
            record { left = omega (arith, c, s); right = omega (arith, c, t); bottom = omega (arith, r, u); top = omega (arith, clamps, r, v, b) },
      )

-- ---- a box beside the rows

-- the row of a point that a tile owns
row_from : (g : Tiling) (k : ℕ) (p : Pt) → 0 < g.side → Owns g k p → IsColumnOf g.bottom g.side p.y (k / g.columns)
row_from g k p some o =
    let r : k / g.columns ≡ o.row = ap (λ n. n / g.columns) o.number_is ∙ div-mul-add o.row g.columns o.column o.in_columns in
    subst (λ n. IsColumnOf g.bottom g.side p.y n) (sym r) (column_from_steps g.bottom p.y g.side o.row some o.row_is)

-- what is less than row m has no point in row n from there on
no_below : (low y z : ℤ) (side m n : ℕ) → y <ℤ (low +ℤ pos (m * side)) → z ≤ℤ y → IsColumnOf low side z n → m ≤ n → ⊥
no_below low y z side m n h o c l = apart low y z (m * side) (n * side) h o c.from (mul-le m side n side l (omega arith))
  where
    apart : (low y z : ℤ) (a b : ℕ) → y <ℤ (low +ℤ pos a) → z ≤ℤ y → (low +ℤ pos b) ≤ℤ z → a ≤ b → ⊥
    apart low y z a b h o c l = omega (arith, ints)

-- what is not less than row m has no point in a row n before it
no_above : (low y z : ℤ) (side m n : ℕ) → (low +ℤ pos (m * side)) ≤ℤ y → y ≤ℤ z → IsColumnOf low side z n → n < m → ⊥
no_above low y z side m n h o c l =
    let d : suc n * side ≡ n * side + side = omega arith in
    let e : suc n * side ≤ m * side = mul-le (suc n) side m side (omega (arith, l)) (omega arith) in
    apart low y z (m * side) (n * side + side) h o c.to (omega (arith, d, e))
  where
    apart : (low y z : ℤ) (a b : ℕ) → (low +ℤ pos a) ≤ℤ y → y ≤ℤ z → z <ℤ (low +ℤ pos b) → b ≤ a → ⊥
    apart low y z a b h o c l = omega (arith, ints)

module _ (g : Tiling) (from past : ℕ) (rect : Rect) (some : 0 < g.side) (k : ℕ) (l : k < (past - from) * g.columns) where
  none_below : rect.hi.y <ℤ (g.bottom +ℤ pos (from * g.side)) → ¬ (HasPointOf g (from * g.columns + k) rect)
  none_below h (p, inside, owned) =
      let r = row_of g.columns from (past - from) k l in
      no_below g.bottom rect.hi.y p.y g.side from _ h inside.top (row_from g _ p some owned) (omega (arith, r))

  none_above : (g.bottom +ℤ pos (past * g.side)) ≤ℤ rect.lo.y → ¬ (HasPointOf g (from * g.columns + k) rect)
  none_above h (p, inside, owned) =
      let r = row_of g.columns from (past - from) k l in
      let b = below g.columns from (past - from) k l in
      no_above g.bottom rect.lo.y p.y g.side past _ h inside.bottom (row_from g _ p some owned) (omega (arith, r, b))

  pub none_beside : (rect.hi.y <ℤ (g.bottom +ℤ pos (from * g.side))) ⊎ ((g.bottom +ℤ pos (past * g.side)) ≤ℤ rect.lo.y) → ¬ (HasPointOf g (from * g.columns + k) rect)
  none_beside beside = ⊎_elim none_below none_above beside

-- ---- a box with one tile

-- both corners of the box have this place, and the box is neither below the rows nor above them
pub record HasOnePlace (g : Tiling) (from past : ℕ) (rect : Rect) (at_place : ℕ × ℕ) : Type 0 where
  pub some : 0 < g.side
  pub low : IsPlaced g rect.lo at_place
  pub high : IsPlaced g rect.hi at_place
  pub not_below : (g.bottom +ℤ pos (from * g.side)) ≤ℤ rect.hi.y
  pub not_above : rect.lo.y <ℤ (g.bottom +ℤ pos (past * g.side))

-- what the code knows of the box
pub one_place_told : (g : Tiling) (from past count : ℕ) (bins : List (List ℕ)) (kept : TileRows) (rect : Rect) (lo hi : ℕ × ℕ) → record { grid = g; from = from; past = past; count = count; bins = bins } ≡ kept
    → 0 < g.side → IsPlaced g rect.lo lo → IsPlaced g rect.hi hi → true ≡ (eqb lo.0 hi.0 && eqb lo.1 hi.1) → (kept.grid.bottom +ℤ pos (kept.from * kept.grid.side)) ≤ℤ rect.hi.y → rect.lo.y <ℤ (kept.grid.bottom +ℤ pos (kept.past * kept.grid.side)) → HasOnePlace g from past rect lo
one_place_told g from past count bins kept rect lo hi view some low high same not_below not_above =
    let (columns, rows) = and_parts (eqb lo.0 hi.0) (eqb lo.1 hi.1) (sym same) in
    let column = eqb-true lo.0 hi.0 columns in
    let row = eqb-true lo.1 hi.1 rows in
    let places : hi ≡ lo = λ i. (sym column i, sym row i) in
    record {
      some = some;
      low = low;
      high = subst (λ (at_place : ℕ × ℕ). IsPlaced g rect.hi at_place) places high;
      not_below = subst (λ (t : TileRows). (t.grid.bottom +ℤ pos (t.from * t.grid.side)) ≤ℤ rect.hi.y) (sym view) not_below;
      not_above = subst (λ (t : TileRows). rect.lo.y <ℤ (t.grid.bottom +ℤ pos (t.past * t.grid.side))) (sym view) not_above;
    }

module _ (g : Tiling) (from past : ℕ) (rect : Rect) (at_place : ℕ × ℕ) (one : HasOnePlace g from past rect at_place) where
  pub row_from_on : from ≤ at_place.1
  row_from_on = elim (cases_lt at_place.1 from) [
    | inl less ↦ absurd (no_above g.bottom rect.hi.y rect.hi.y g.side from at_place.1 one.not_below (itself rect.hi.y) (column_from_steps g.bottom rect.hi.y g.side at_place.1 one.some one.high.row_is) less)
    | inr more ↦ more
  ]

  row_before : at_place.1 < past
  row_before = elim (cases_lt at_place.1 past) [
    | inl less ↦ less
    | inr more ↦ absurd (no_below g.bottom rect.lo.y rect.lo.y g.side past at_place.1 one.not_above (itself rect.lo.y) (column_from_steps g.bottom rect.lo.y g.side at_place.1 one.some one.low.row_is) more)
  ]

  -- the number of the one tile, from the first of the rows on
  abbrev pub one_tile : ℕ
  one_tile = (at_place.1 - from) * g.columns + at_place.0

  number_in_grid : from * g.columns + one_tile ≡ at_place.1 * g.columns + at_place.0
  number_in_grid =
      let h = row_from_on in
      let r : at_place.1 ≡ from + (at_place.1 - from) = omega (arith, h) in
      let p : at_place.1 * g.columns ≡ (from + (at_place.1 - from)) * g.columns = ap (λ n. n * g.columns) r in
      let q : (from + (at_place.1 - from)) * g.columns ≡ from * g.columns + (at_place.1 - from) * g.columns = omega arith in
      omega (arith, p, q)

  pub tile_within : one_tile < (past - from) * g.columns
  tile_within =
      let h = row_from_on in
      let b = row_before in
      let c = one.low.in_columns in
      let m : suc (at_place.1 - from) * g.columns ≤ (past - from) * g.columns = mul-le (suc (at_place.1 - from)) g.columns (past - from) g.columns (omega (arith, h, b)) (omega arith) in
      let d : suc (at_place.1 - from) * g.columns ≡ (at_place.1 - from) * g.columns + g.columns = omega arith in
      omega (arith, m, d, c)

  one_meets : (k : ℕ) → k ≡ one_tile → HasPointOf g (from * g.columns + k) rect
  one_meets k e = (
    rect.lo,
    record { left = itself rect.lo.x; right = rect.wide; bottom = itself rect.lo.y; top = rect.high },
    record {
      column = at_place.0;
      row = at_place.1;
      column_is = one.low.column_is;
      row_is = one.low.row_is;
      in_columns = one.low.in_columns;
      in_rows = one.low.in_rows;
      number_is = ap (λ n. from * g.columns + n) e ∙ number_in_grid;
    },
  )

  one_only : (k : ℕ) → HasPointOf g (from * g.columns + k) rect → k ≡ one_tile
  one_only k has =
      let n = from * g.columns + k in
      let i = among g rect at_place at_place one.some one.low one.high n has in
      let a = i.left in
      let b = i.right in
      let c = i.bottom in
      let d = i.top in
      let r : n / g.columns ≡ at_place.1 = omega (arith, c, d) in
      let p : n / g.columns * g.columns ≡ at_place.1 * g.columns = ap (λ m. m * g.columns) r in
      let e = div-add-mod' n g.columns in
      let f = number_in_grid in
      omega (arith, a, b, p, e, f)

  -- the number is given to the one tile
  pub given_at_once : {A : Type 0} (number tile : ℕ) (bins : List (Vec ℕ A)) (v w : Vec ℕ A) → tile ≡ one_tile → length bins ≡ (past - from) * g.columns → w.items ≡ (get_or bins tile v).items ++ number ∷ [] → AreGiven (λ k. HasPointOf g (from * g.columns + k) rect) number (lists_of bins) (lists_of (set bins tile w))
  given_at_once number tile bins v w is tiles pushed =
      given_same (λ k. k ≡ tile) (λ k. HasPointOf g (from * g.columns + k) rect) number (lists_of bins) (lists_of (set bins tile w)) (λ k _. (λ e. one_meets k (e ∙ is), λ h. one_only k h ∙ sym is))
      (given_one number tile bins v w (let t = tile_within in omega (arith, tiles, t, is)) pushed)

-- ---- a box more

-- the bin of a tile gets the number of a box that has a point of it, and no other does
abbrev pub Gets : Tiling → ℕ → Rect → ℕ → List ℕ → List ℕ → Type 0
Gets g k rect number old new = (HasPointOf g k rect × (new ≡ old ++ number ∷ [])) ⊎ (¬ (HasPointOf g k rect) × (new ≡ old))

pub rows_more : (g : Tiling) (from past count : ℕ) (old new : List (List ℕ)) (rect : Rect) → ((k : ℕ) → k < (past - from) * g.columns → Gets g (from * g.columns + k) rect count (get_or old k []) (get_or new k []))
    → (boxes : List Rect) → AreRowBins boxes (record { grid = g; from = from; past = past; count = count; bins = old }) → AreRowBins (boxes ++ rect ∷ []) (record { grid = g; from = from; past = past; count = count + 1; bins = new })
rows_more g from past count old new rect gets boxes are = record {
  count_is = let c = are.count_is in let n = length-append boxes (rect ∷ []) in omega (arith, c, n);
  each = λ k l. ⊎_elim
      (λ (met, e). rw (e, are.count_is) (bin_given g (from * g.columns + k) boxes rect (get_or old k []) (are.each k l) met))
      (λ (none, e). rw e (bin_kept g (from * g.columns + k) boxes rect (get_or old k []) (are.each k l) none))
      (gets k l);
}

-- the tiles of the box's block that are in the rows are those of the rows that have a point of it
pub given_block : {A : Type 0} (g : Tiling) (from past number : ℕ) (bins lent new : List (Vec ℕ A)) (rect : Rect) (lo hi : ℕ × ℕ) → 0 < g.side → IsPlaced g rect.lo lo → IsPlaced g rect.hi hi → length bins ≡ (past - from) * g.columns → lent ≡ bins
    → AreGiven (IsAmong g.columns (lo.0, hi.0) (lo.1 - from, min (hi.1 + 1 - from) (past - from))) number (lists_of lent) (lists_of new) → AreGiven (λ k. HasPointOf g (from * g.columns + k) rect) number (lists_of bins) (lists_of new)
given_block {A} g from past number bins lent new rect lo hi some low high tiles e given =
    given_same (IsAmong g.columns (lo.0, hi.0) (lo.1 - from, min (hi.1 + 1 - from) (past - from))) (λ k. HasPointOf g (from * g.columns + k) rect) number (lists_of bins) (lists_of new)
    (λ k l.
    let m : k < (past - from) * g.columns = omega (arith, l, tiles, length-map bins (λ (u : Vec ℕ A). u.items)) in
    let same = cut g.columns from (past - from) k m (lo.0, hi.0) lo.1 (hi.1 + 1) in
    (λ h. meets g rect lo hi some low high (from * g.columns + k) (same.0 h), λ h. same.1 (among g rect lo hi some low high (from * g.columns + k) h)))
    (subst (λ (ls : List (Vec ℕ A)). AreGiven (IsAmong g.columns (lo.0, hi.0) (lo.1 - from, min (hi.1 + 1 - from) (past - from))) number (lists_of ls) (lists_of new)) e given)

-- the same, told of the rows that are kept
pub given_kept : (g : Tiling) (from past count number : ℕ) (bins new : List (List ℕ)) (rect : Rect) (kept : TileRows) → record { grid = g; from = from; past = past; count = count; bins = bins } ≡ kept
    → AreGiven (λ k. HasPointOf g (from * g.columns + k) rect) number bins new → AreGiven (λ k. HasPointOf kept.grid (kept.from * kept.grid.columns + k) rect) number kept.bins new
given_kept g from past count number bins new rect kept view given = subst (λ (t : TileRows). AreGiven (λ k. HasPointOf t.grid (t.from * t.grid.columns + k) rect) number t.bins new) view given

-- a box whose corners have tiles has a point of a tile, or has none
has_or_not : (g : Tiling) (rect : Rect) (k : ℕ) → 0 < g.side → HasTile g rect.lo → HasTile g rect.hi → HasPointOf g k rect ⊎ (HasPointOf g k rect → ⊥)
has_or_not g rect k some (m, a) (n, b) =
    let lo : ℕ × ℕ = (a.column, a.row) in
    let hi : ℕ × ℕ = (b.column, b.row) in
    let low : IsPlaced g rect.lo lo = record { column_is = a.column_is; row_is = a.row_is; in_columns = a.in_columns; in_rows = a.in_rows } in
    let high : IsPlaced g rect.hi hi = record { column_is = b.column_is; row_is = b.row_is; in_columns = b.in_columns; in_rows = b.in_rows } in
    ⊎_elim (λ h. inl (meets g rect lo hi some low high k h)) (λ none. inr (λ h. none (among g rect lo hi some low high k h))) (decided g.columns (lo.0, hi.0) (lo.1, hi.1 + 1) k)

-- each tile of the rows gets the number, or does not
given_gets : (g : Tiling) (from past count : ℕ) (old new : List (List ℕ)) (rect : Rect) → 0 < g.side → HasTile g rect.lo → HasTile g rect.hi → length old ≡ (past - from) * g.columns → AreGiven (λ k. HasPointOf g (from * g.columns + k) rect) count old new
    → (k : ℕ) → k < (past - from) * g.columns → Gets g (from * g.columns + k) rect count (get_or old k []) (get_or new k [])
given_gets g from past count old new rect some lo hi tiles given k l =
    let m : k < length old = omega (arith, l, tiles) in
    ⊎_elim (λ h. inl (h, given.given k m h)) (λ none. inr (none, given.kept k m none)) (has_or_not g rect (from * g.columns + k) some lo hi)

-- a box of the next number is one box more
pub given_more_rows : {A : Type 0} (g : Tiling) (from past count : ℕ) (bins : List (Vec ℕ A)) (new : TileRows) (rect : Rect) (kept : TileRows) → record { grid = g; from = from; past = past; count = count; bins = lists_of bins } ≡ kept
    → length bins ≡ (past - from) * g.columns → 0 < g.side → HasTile kept.grid rect.lo → HasTile kept.grid rect.hi → new.grid ≡ g → new.from ≡ from → new.past ≡ past → new.count ≡ count + 1
    → AreGiven (λ k. HasPointOf g (from * g.columns + k) rect) count (lists_of bins) new.bins → (boxes : List Rect) → AreRowBins boxes kept → AreRowBins (boxes ++ rect ∷ []) new
given_more_rows {A} g from past count bins new rect kept view tiles some lo hi grid_is from_is past_is count_is given boxes are =
    let old : List (List ℕ) = lists_of bins in
    let grid_was : kept.grid ≡ g = ap (λ (t : TileRows). t.grid) (sym view) in
    let low : HasTile g rect.lo = subst (λ (t : Tiling). HasTile t rect.lo) grid_was lo in
    let high : HasTile g rect.hi = subst (λ (t : Tiling). HasTile t rect.hi) grid_was hi in
    let new_is : record { grid = g; from = from; past = past; count = count + 1; bins = new.bins } ≡ new = λ i. record { grid = sym grid_is i; from = sym from_is i; past = sym past_is i; count = sym count_is i; bins = new.bins } in
    let tiles_of : length old ≡ (past - from) * g.columns = length-map bins (λ (u : Vec ℕ A). u.items) ∙ tiles in
    subst (λ (t : TileRows). AreRowBins (boxes ++ rect ∷ []) t) new_is
    (rows_more g from past count old new.bins rect (given_gets g from past count old new.bins rect some low high tiles_of given) boxes (subst (λ (t : TileRows). AreRowBins boxes t) (sym view) are))

-- a box beside the rows changes but their count
pub beside_more : (g : Tiling) (from past count : ℕ) (bins : List (List ℕ)) (rect : Rect) (kept : TileRows) → record { grid = g; from = from; past = past; count = count; bins = bins } ≡ kept
    → ((k : ℕ) → k < (past - from) * g.columns → ¬ (HasPointOf g (from * g.columns + k) rect)) → (boxes : List Rect) → AreRowBins boxes kept → AreRowBins (boxes ++ rect ∷ []) (record { grid = g; from = from; past = past; count = count + 1; bins = bins })
beside_more g from past count bins rect kept view none boxes are = rows_more g from past count bins bins rect (λ k l. inr (none k l, refl)) boxes (subst (λ (t : TileRows). AreRowBins boxes t) (sym view) are)

-- ---- no boxes
pub none_given : (g : Tiling) (from past : ℕ) (bins : List (List ℕ)) → ((k : ℕ) → get_or bins k [] ≡ []) → AreRowBins [] (record { grid = g; from = from; past = past; count = 0; bins = bins })
none_given g from past bins none = record {
  count_is = refl;
  each = λ k l. rw (none k) (record {
    ascending = λ i j d a b. absurd (omega (arith, a, b));
    exact = λ number. (λ (i, m, e). absurd (omega (arith, m)), λ (b, is, met). absurd (cc));
  });
}

-- ---- rows behind rows
module _ (width from middle past : ℕ) (first : from ≤ middle) (second : middle ≤ past) where
  pub parts_length : (m n : ℕ) → m ≡ (middle - from) * width → n ≡ (past - middle) * width → m + n ≡ (past - from) * width
  parts_length m n d e =
      let r : past - from ≡ (middle - from) + (past - middle) = omega (arith, first, second) in
      let p : ((middle - from) + (past - middle)) * width ≡ (middle - from) * width + (past - middle) * width = omega arith in
      let q : (past - from) * width ≡ ((middle - from) + (past - middle)) * width = ap (λ t. t * width) r in
      omega (arith, d, e, p, q)

  shifted : (m k : ℕ) → m ≡ (middle - from) * width → m ≤ k → middle * width + (k - m) ≡ from * width + k
  shifted m k e o =
      let r : middle ≡ from + (middle - from) = omega (arith, first) in
      let p : middle * width ≡ (from + (middle - from)) * width = ap (λ t. t * width) r in
      let q : (from + (middle - from)) * width ≡ from * width + (middle - from) * width = omega arith in
      omega (arith, p, q, e, o)

pub behind : (g : Tiling) (from middle past count more : ℕ) (front back : List (List ℕ)) → from ≤ middle → middle ≤ past → length front ≡ (middle - from) * g.columns
    → (boxes : List Rect) → AreRowBins boxes (record { grid = g; from = from; past = middle; count = count; bins = front }) → AreRowBins boxes (record { grid = g; from = middle; past = past; count = more; bins = back })
    → AreRowBins boxes (record { grid = g; from = from; past = past; count = count; bins = front ++ back })
behind g from middle past count more front back l h tiles boxes a b = record {
  count_is = a.count_is;
  each = λ k m. elim (cases_lt k (length front)) [
    | inl less ↦ rw (get_or_append_left front back [] k less) (a.each k (omega (arith, less, tiles)))
    | inr later ↦
        let t = parts_length g.columns from middle past l h (length front) ((past - middle) * g.columns) tiles refl in
        let within : k - length front < (past - middle) * g.columns = omega (arith, later, t, m) in
        rw (get_or-append_right front back (length front) k [] refl (omega (arith, later)))
        (subst (λ n. IsBin g n boxes (get_or back (k - length front) [])) (shifted g.columns from middle past l h (length front) k tiles (omega (arith, later))) (b.each (k - length front) within))
  ];
}

-- what the code makes of the bins of rows and of those that follow
pub put_behind : {A : Type 0} (g h : Tiling) (from middle follow past count more : ℕ) (front back all : List (Vec ℕ A)) (kept next : TileRows) → record { grid = g; from = from; past = middle; count = count; bins = lists_of front } ≡ kept → record { grid = h; from = follow; past = past; count = more; bins = lists_of back } ≡ next
    → next.grid ≡ kept.grid → next.from ≡ kept.past → from ≤ middle → follow ≤ past → length front ≡ (middle - from) * g.columns → all ≡ front ++ back
    → (boxes : List Rect) → AreRowBins boxes kept → AreRowBins boxes next → AreRowBins boxes (record { grid = g; from = from; past = past; count = count; bins = lists_of all })
put_behind {A} g h from middle follow past count more front back all kept next view view_next same follows l o tiles is boxes a b =
    let grid_is : h ≡ g = ap (λ (t : TileRows). t.grid) view_next ∙ same ∙ sym (ap (λ (t : TileRows). t.grid) view) in
    let from_is : follow ≡ middle = ap (λ (t : TileRows). t.from) view_next ∙ follows ∙ sym (ap (λ (t : TileRows). t.past) view) in
    let first : AreRowBins boxes (record { grid = g; from = from; past = middle; count = count; bins = lists_of front }) = subst (λ (t : TileRows). AreRowBins boxes t) (sym view) a in
    let next_is : next ≡ record { grid = g; from = middle; past = past; count = more; bins = lists_of back } = sym view_next ∙ (λ i. record { grid = grid_is i; from = from_is i; past = past; count = more; bins = lists_of back }) in
    let second : AreRowBins boxes (record { grid = g; from = middle; past = past; count = more; bins = lists_of back }) = subst (λ (t : TileRows). AreRowBins boxes t) next_is b in
    let bins_are : lists_of front ++ lists_of back ≡ lists_of all = sym (map-append (λ (v : Vec ℕ A). v.items) front back) ∙ ap (λ (vs : List (Vec ℕ A)). lists_of vs) (sym is) in
    subst (λ (ls : List (List ℕ)). AreRowBins boxes (record { grid = g; from = from; past = past; count = count; bins = ls })) bins_are
    (behind g from middle past count more (lists_of front) (lists_of back) l (subst (λ (n : ℕ). n ≤ past) from_is o) (length-map front (λ (v : Vec ℕ A). v.items) ∙ tiles) boxes first second)

-- ---- all rows
module _ (kept : TileRows) (from : kept.from ≡ 0) (past : kept.past ≡ kept.grid.rows) where
  tiles_in : (kept.past - kept.from) * kept.grid.columns ≡ tile_count kept.grid
  tiles_in = let e : kept.past - kept.from ≡ kept.grid.rows = omega (arith, from, past) in ap (λ n. n * kept.grid.columns) e

  at_first : (k : ℕ) → kept.from * kept.grid.columns + k ≡ k
  at_first k = let e : kept.from * kept.grid.columns ≡ 0 * kept.grid.columns = ap (λ n. n * kept.grid.columns) from in omega (arith, e)

  pub all_rows : (boxes : List Rect) → AreRowBins boxes kept → AreBins boxes (record { grid = kept.grid; count = kept.count; bins = kept.bins })
  all_rows boxes are = record {
    count_is = are.count_is;
    each = λ k l. subst (λ n. IsBin kept.grid n boxes (get_or kept.bins k [])) (at_first k) (are.each k (let e = tiles_in in omega (arith, e, l)));
  }

  pub in_rows : (boxes : List Rect) → AreBins boxes (record { grid = kept.grid; count = kept.count; bins = kept.bins }) → AreRowBins boxes kept
  in_rows boxes are = record {
    count_is = are.count_is;
    each = λ k l. subst (λ n. IsBin kept.grid n boxes (get_or kept.bins k [])) (sym (at_first k)) (are.each k (let e = tiles_in in omega (arith, e, l)));
  }

-- the bins of all rows get a box more
pub all_more : (old new : TileRows) (rect : Rect) (kept : TileBins) → record { grid = old.grid; count = old.count; bins = old.bins } ≡ kept → old.from ≡ 0 → old.past ≡ old.grid.rows → new.grid ≡ old.grid → new.from ≡ old.from → new.past ≡ old.past
    → ((boxes : List Rect) → AreRowBins boxes old → AreRowBins (boxes ++ rect ∷ []) new) → (boxes : List Rect) → AreBins boxes kept → AreBins (boxes ++ rect ∷ []) (record { grid = new.grid; count = new.count; bins = new.bins })
all_more old new rect kept view from past grid same_from same_past more boxes are =
    all_rows new (same_from ∙ from) (same_past ∙ past ∙ ap (λ (g : Tiling). g.rows) (sym grid)) (boxes ++ rect ∷ []) (more boxes (in_rows old from past boxes (subst (λ (t : TileBins). AreBins boxes t) (sym view) are)))
