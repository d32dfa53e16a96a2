-- The columns of a grid: those of a number, of an interval, and of the points of a rectangle.
use Rattle.std.proofs.Common.{◌≡◌, ℕ, suc, ◌+◌, ◌-◌, ◌*◌, ◌/◌, ◌%◌, ◌^◌, ◌<◌, ◌≤◌, arith, inl, inr, refl, sym, ap, ◌∙◌, subst, ℤ, pos, negsuc, ◌-ℤ◌, ◌+ℤ◌, w32, w64, to_z, of_z, to_z-of_z, FitsSigned}
use Rattle.std.specs.Prelude.{◌↔◌, ◌≤ℤ◌, ◌<ℤ◌, nat_abs}
use Rattle.std.specs.Int.{int_div_euclid}
use Rattle.std.proofs.lemmas.Int.{ints}
use Rattle.std.proofs.lemmas.Nat.{div-add-mod', mul-le}
use Rattle.std.proofs.Math.Nat.{div-eq_of_lt, mod-lt}
use Rattle.std.proofs.lemmas.Bool.{cases_lt}
use Rattle.geom.specs.Limit.{IsWithin, coordinate_limit}
use Rattle.geom.specs.declared.point.Pt.{Pt}
use Rattle.geom.specs.declared.rect.Rect.{Rect}
use Rattle.geom.specs.Box.{IsInBox}
use Rattle.geom.proofs.Numbers.{le_le}
use Rattle.geom.proofs.Bounds.{within_room}
use Rattle.grid.specs.Tiles.{HasTile, IsOver, Owns, Tiling, steps, tile_count}

-- the k-th column from low has x
pub record IsColumnOf (low : ℤ) (side : ℕ) (x : ℤ) (k : ℕ) : Type 0 where
  pub from : (low +ℤ pos (k * side)) ≤ℤ x
  pub to : x <ℤ (low +ℤ pos (k * side + side))

-- ---- the whole steps to a number
pub steps_are : (low x : ℤ) (w side : ℕ) → pos w ≡ x -ℤ low → steps low side x ≡ pos (w / side)
steps_are low x w side e = ap (λ z. int_div_euclid z (pos side)) (sym e)

pub pos_same : (a b : ℕ) → pos a ≡ pos b → a ≡ b
pos_same a b e = cc

pub record Whole (z : ℤ) : Type 0 where
  pub width : ℕ
  pub is : pos width ≡ z

whole : (z : ℤ) (side k : ℕ) → int_div_euclid z (pos side) ≡ pos k → Whole z
whole (pos n) side k e = record { width = n; is = refl }
whole (negsuc n) side k e = cc

-- where there are whole steps, the number isn't before low
pub steps_after : (low x : ℤ) (side k : ℕ) → steps low side x ≡ pos k → low ≤ℤ x
steps_after low x side k e = let w = whole (x -ℤ low) side k e in after low x w.width w.is
  where
    after : (low x : ℤ) (w : ℕ) → pos w ≡ x -ℤ low → low ≤ℤ x
    after low x w e = omega (arith, ints)

column : (low x : ℤ) (w side k : ℕ) → pos w ≡ x -ℤ low → 0 < side → k ≡ w / side → IsColumnOf low side x k
column low x w side k e s h =
    let d = div-add-mod' w side in
    let m = mod-lt w s in
    rw h (record { from = below low x w (w / side * side) (w % side) e d; to = above low x w (w / side * side) side (w % side) e d m })
  where
    below : (low x : ℤ) (w q r : ℕ) → pos w ≡ x -ℤ low → q + r ≡ w → (low +ℤ pos q) ≤ℤ x
    below low x w q r e d = omega (arith, ints)

    above : (low x : ℤ) (w q side r : ℕ) → pos w ≡ x -ℤ low → q + r ≡ w → r < side → x <ℤ (low +ℤ pos (q + side))
    above low x w q side r e d m = omega (arith, ints)

later_column : (left x : ℤ) (side j k : ℕ) → IsColumnOf left side x j → IsColumnOf left side x k → j < k → ⊥
later_column left x side j k h g l =
    let m : suc j * side ≤ k * side = mul-le (suc j) side k side (omega arith) (omega arith) in
    let e : suc j * side ≡ j * side + side = omega arith in
    apart left x (j * side) (k * side) side h.to g.from (omega (arith, m, e))
  where
    apart : (left x : ℤ) (a b s : ℕ) → x <ℤ (left +ℤ pos (a + s)) → (left +ℤ pos b) ≤ℤ x → a + s ≤ b → ⊥
    apart left x a b s h g l = omega (arith, ints)

one_column : (left x : ℤ) (side j k : ℕ) → IsColumnOf left side x j → IsColumnOf left side x k → j ≡ k
one_column left x side j k h g = elim (cases_lt j k) [
  | inl less ↦ absurd (later_column left x side j k h g less)
  | inr more ↦ elim (cases_lt k j) [
    | inl less ↦ absurd (later_column left x side k j g h less)
    | inr same ↦ omega arith
  ]
]

pub column_from_steps : (low x : ℤ) (side k : ℕ) → 0 < side → steps low side x ≡ pos k → IsColumnOf low side x k
column_from_steps low x side k s e =
    let w = whole (x -ℤ low) side k e in
    column low x w.width side k w.is s (pos_same _ _ (sym e ∙ steps_are low x w.width side w.is))

after_first : (low x : ℤ) (a : ℕ) → (low +ℤ pos a) ≤ℤ x → low ≤ℤ x
after_first low x a h = omega (arith, ints)

pub between : (low x : ℤ) → low ≤ℤ x → Whole (x -ℤ low)
between low x h = record { width = nat_abs (x -ℤ low); is = omega (arith, ints) }

pub steps_from_column : (low x : ℤ) (side k : ℕ) → 0 < side → IsColumnOf low side x k → steps low side x ≡ pos k
steps_from_column low x side k s h =
    let w = between low x (after_first low x (k * side) h.from) in
    steps_are low x w.width side w.is ∙ ap pos (one_column low x side (w.width / side) k (column low x w.width side (w.width / side) w.is s refl) h)

-- what the code computes
pub width_is : (low x a b : ℤ) → FitsSigned w32 low → FitsSigned w32 x → low ≤ℤ x → a ≡ to_z w32 (of_z w32 x) → b ≡ to_z w32 (of_z w32 low) → pos (nat_abs (to_z w64 (of_z w64 (to_z w64 (of_z w64 a) -ℤ to_z w64 (of_z w64 b))))) ≡ x -ℤ low
width_is low x a b f g h e d = omega (arith, ints)

-- ---- rows of columns
later_row : (rows columns row column row' column' : ℕ) → column < columns → row * columns + column ≡ row' * columns + column' → row < row' → ⊥
later_row rows columns row column row' column' h e l =
    let m : suc row * columns ≤ row' * columns = mul-le (suc row) columns row' columns (omega arith) (omega arith) in
    let d : suc row * columns ≡ row * columns + columns = omega arith in
    omega (arith, m, d)

pub one_place : (columns row column row' column' : ℕ) → column < columns → column' < columns → row * columns + column ≡ row' * columns + column' → (row ≡ row') × (column ≡ column')
one_place columns row column row' column' h k e = elim (cases_lt row row') [
  | inl less ↦ absurd (later_row 0 columns row column row' column' h e less)
  | inr more ↦ elim (cases_lt row' row) [
    | inl less ↦ absurd (later_row 0 columns row' column' row column k (sym e) less)
    | inr same ↦ let r : row ≡ row' = omega arith in (r, rest columns row column row' column' r e)
  ]
]
  where
    rest : (columns row column row' column' : ℕ) → row ≡ row' → row * columns + column ≡ row' * columns + column' → column ≡ column'
    rest columns row column row' column' r e = let m : row * columns ≡ row' * columns = ap (λ n. n * columns) r in omega (arith, m)

pub row_below : (number rows columns : ℕ) → number < rows * columns → number / columns < rows
row_below number rows columns h = elim (cases_lt (number / columns) rows) [
  | inl less ↦ less
  | inr more ↦
      let m : rows * columns ≤ number / columns * columns = mul-le rows columns (number / columns) columns more (omega arith) in
      absurd (omega (arith, m, div-add-mod' number columns))
]

pub some_columns : (number rows columns : ℕ) → number < rows * columns → 0 < columns
some_columns number rows columns h = elim (cases_lt 0 columns) [
  | inl some ↦ some
  | inr none ↦ let e : columns ≡ 0 = omega arith in let f : rows * columns ≡ 0 = ap (λ n. rows * n) e ∙ omega arith in absurd (omega (arith, f))
]

-- ---- the owner of a point
pub owner_is : (g : Tiling) (p : Pt) (j k : ℕ) → Owns g j p → Owns g k p → j ≡ k
owner_is g p j k h o =
    let c = pos_same h.column o.column (sym h.column_is ∙ o.column_is) in
    let r = pos_same h.row o.row (sym h.row_is ∙ o.row_is) in
    h.number_is ∙ (λ i. r i * g.columns + c i) ∙ sym o.number_is

last_in : (low x : ℤ) (a s : ℕ) → 0 < s → x <ℤ (low +ℤ pos (a + s)) → x ≤ℤ (low +ℤ pos (a + s - 1))
last_in low x a s h l = omega (arith, ints)

past_last : (low x : ℤ) (a s : ℕ) → 0 < s → x ≤ℤ (low +ℤ pos (a + s - 1)) → x <ℤ (low +ℤ pos (a + s))
past_last low x a s h l = omega (arith, ints)

-- the corners of a tile
pub record AreCorners (g : Tiling) (number : ℕ) (lo hi : Pt) : Type 0 where
  pub left : lo.x ≡ g.left +ℤ pos (number % g.columns * g.side)
  pub right : hi.x ≡ g.left +ℤ pos (number % g.columns * g.side + g.side - 1)
  pub bottom : lo.y ≡ g.bottom +ℤ pos (number / g.columns * g.side)
  pub top : hi.y ≡ g.bottom +ℤ pos (number / g.columns * g.side + g.side - 1)

pub owned_from : (g : Tiling) (number : ℕ) (lo hi : Pt) (p : Pt) → 0 < g.side → number < tile_count g → AreCorners g number lo hi → IsInBox lo hi p → Owns g number p
owned_from g number lo hi p s h c i =
    record {
      column = number % g.columns;
      row = number / g.columns;
      column_is = steps_from_column g.left p.x g.side (number % g.columns) s (record { from = subst (λ z. z ≤ℤ p.x) c.left i.left; to = past_last g.left p.x (number % g.columns * g.side) g.side s (subst (λ z. p.x ≤ℤ z) c.right i.right) });
      row_is = steps_from_column g.bottom p.y g.side (number / g.columns) s (record { from = subst (λ z. z ≤ℤ p.y) c.bottom i.bottom; to = past_last g.bottom p.y (number / g.columns * g.side) g.side s (subst (λ z. p.y ≤ℤ z) c.top i.top) });
      in_columns = mod-lt number (some_columns number g.rows g.columns h);
      in_rows = row_below number g.rows g.columns h;
      number_is = sym (div-add-mod' number g.columns);
    }

pub in_from : (g : Tiling) (number : ℕ) (lo hi : Pt) (p : Pt) → 0 < g.side → number < tile_count g → AreCorners g number lo hi → Owns g number p → IsInBox lo hi p
in_from g number lo hi p s h c o =
    let same = one_place g.columns (number / g.columns) (number % g.columns) o.row o.column (mod-lt number (some_columns number g.rows g.columns h)) o.in_columns (div-add-mod' number g.columns ∙ o.number_is) in
    let across = column_from_steps g.left p.x g.side (number % g.columns) s (o.column_is ∙ ap pos (sym same.1)) in
    let up = column_from_steps g.bottom p.y g.side (number / g.columns) s (o.row_is ∙ ap pos (sym same.0)) in
    record {
      left = subst (λ z. z ≤ℤ p.x) (sym c.left) across.from;
      right = subst (λ z. p.x ≤ℤ z) (sym c.right) (last_in g.left p.x (number % g.columns * g.side) g.side s across.to);
      bottom = subst (λ z. z ≤ℤ p.y) (sym c.bottom) up.from;
      top = subst (λ z. p.y ≤ℤ z) (sym c.top) (last_in g.bottom p.y (number / g.columns * g.side) g.side s up.to);
    }

-- a rectangle at the corners of a tile has the points that the tile owns
pub exact : (g h : Tiling) (number : ℕ) (lo hi : Pt) → h ≡ g → 0 < h.side → number < tile_count g → AreCorners h number lo hi → (p : Pt) → IsInBox lo hi p ↔ Owns g number p
exact g h number lo hi e s k c p =
    let l : number < tile_count h = subst (λ (g : Tiling). number < tile_count g) (sym e) k in
    subst (λ (g : Tiling). IsInBox lo hi p ↔ Owns g number p) e (owned_from h number lo hi p s l c, in_from h number lo hi p s l c)

pub corner : (z low n : ℤ) → FitsSigned w32 z → FitsSigned w32 low → z ≡ to_z w32 (of_z w32 low) +ℤ n → to_z w32 (of_z w32 z) ≡ low +ℤ n
corner z low n f g e = to_z-of_z f ∙ e ∙ ap (λ x. x +ℤ n) (to_z-of_z g)

pub last_near : (low z : ℤ) (k columns side : ℕ) → IsWithin (2 ^ 28) low → k < columns → columns * side ≤ 2 ^ 29 + 2 ^ 26 → z ≡ low +ℤ pos (k * side + side - 1) → z ≤ℤ pos (2 ^ 30)
last_near low z k columns side h l m e =
    let n : suc k * side ≤ columns * side = mul-le (suc k) side columns side l (omega arith) in
    let d : suc k * side ≡ k * side + side = omega arith in
    near low z (k * side + side) h (omega (arith, n, d)) e
  where
    near : (low z : ℤ) (a : ℕ) → IsWithin (2 ^ 28) low → a ≤ 2 ^ 29 + 2 ^ 26 → z ≡ low +ℤ pos (a - 1) → z ≤ℤ pos (2 ^ 30)
    near low z a h l e = omega (arith, ints)

-- ---- the columns over an interval
pub columns_from : (low high : ℤ) (side columns w : ℕ) → pos w ≡ high -ℤ low → pos columns ≡ steps low side high +ℤ pos 1 → columns ≡ w / side + 1
columns_from low high side columns w e c = let f : pos columns ≡ pos (w / side) +ℤ pos 1 = c ∙ ap (λ z. z +ℤ pos 1) (steps_are low high w side e) in omega (arith, ints)

fewer_steps : (v w side : ℕ) → 0 < side → v ≤ w → v / side ≤ w / side
fewer_steps v w side s h = elim (cases_lt (w / side) (v / side)) [
  | inl less ↦
      let m : suc (w / side) * side ≤ v / side * side = mul-le (suc (w / side)) side (v / side) side (omega arith) (omega arith) in
      let d : suc (w / side) * side ≡ w / side * side + side = omega arith in
      absurd (omega (arith, m, d, div-add-mod' v side, div-add-mod' w side, mod-lt w s))
  | inr few ↦ few
]

pub record Step (low : ℤ) (side : ℕ) (x : ℤ) (columns : ℕ) : Type 0 where
  pub number : ℕ
  pub is : steps low side x ≡ pos number
  pub within : number < columns

pub inside : (low high x : ℤ) (side columns : ℕ) → 0 < side → low ≤ℤ x → x ≤ℤ high → pos columns ≡ steps low side high +ℤ pos 1 → Step low side x columns
inside low high x side columns s h l c =
    let v = between low x h in
    let w = between low high (le_le low x high h l) in
    let e = columns_from low high side columns w.width w.is c in
    let f = fewer_steps v.width w.width side s (widths low x high v.width w.width v.is w.is l) in
    record { number = v.width / side; is = steps_are low x v.width side v.is; within = omega arith }
  where
    widths : (low x high : ℤ) (v w : ℕ) → pos v ≡ x -ℤ low → pos w ≡ high -ℤ low → x ≤ℤ high → v ≤ w
    widths low x high v w e f l = omega (arith, ints)

pub covers : (r : Rect) (side : ℕ) (g : Tiling) → 0 < side → IsOver r side g → (p : Pt) → IsInBox r.lo r.hi p → HasTile g p
covers r side g s o p i =
    let a = inside r.lo.x r.hi.x p.x side g.columns s i.left i.right o.columns_are in
    let b = inside r.lo.y r.hi.y p.y side g.rows s i.bottom i.top o.rows_are in (
      b.number * g.columns + a.number,
      record {
        column = a.number;
        row = b.number;
        column_is = (λ j. steps (o.left_is j) (o.side_is j) p.x) ∙ a.is;
        row_is = (λ j. steps (o.bottom_is j) (o.side_is j) p.y) ∙ b.is;
        in_columns = a.within;
        in_rows = b.within;
        number_is = refl;
      },
    )

-- a side that is greater than the interval
pub one_column_over : (low high : ℤ) (side : ℕ) → IsWithin coordinate_limit low → IsWithin coordinate_limit high → low ≤ℤ high → 536870912 < side → pos 1 ≡ steps low side high +ℤ pos 1
one_column_over low high side h k order l =
    let w = between low high order in
    let small : w.width < side = omega (arith, few low high w.width h k w.is, l) in
    sym (ap (λ z. z +ℤ pos 1) (steps_are low high w.width side w.is ∙ ap pos (div-eq_of_lt small)))
  where
    few : (low high : ℤ) (w : ℕ) → IsWithin coordinate_limit low → IsWithin coordinate_limit high → pos w ≡ high -ℤ low → w ≤ 536870912
    few low high w h k e =
        let a = h.low in
        let b = k.high in
        omega (arith, ints, a, b)

pub wide : (low high : ℤ) (side columns : ℕ) → IsWithin coordinate_limit low → IsWithin coordinate_limit high → low ≤ℤ high → side ≤ 33554432 → pos columns ≡ steps low side high +ℤ pos 1 → columns * side ≤ 2 ^ 29 + 2 ^ 26
wide low high side columns h k order small c =
    let w = between low high order in
    let e = columns_from low high side columns w.width w.is c in
    let d : (w.width / side + 1) * side ≡ w.width / side * side + side = omega arith in
    rw (e, d) (room low high w.width (w.width / side * side) side (within_room low h) (within_room high k) w.is (omega (arith, div-add-mod' w.width side)) small)
  where
    room : (low high : ℤ) (w a side : ℕ) → IsWithin (2 ^ 28) low → IsWithin (2 ^ 28) high → pos w ≡ high -ℤ low → a ≤ w → side ≤ 33554432 → a + side ≤ 2 ^ 29 + 2 ^ 26
    room low high w a side h k e l s = omega (arith, ints)
