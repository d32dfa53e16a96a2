-- Bins that are kept tile by tile: what one number more changes, and which tiles a box meets.
use Rattle.std.proofs.Common.{◌≡◌, ◌⊎◌, inl, inr, ℕ, suc, ◌+◌, ◌-◌, ◌*◌, ◌/◌, ◌%◌, ◌<◌, ◌≤◌, ◌++◌, ◌∷◌, [], List, length, set, get_or, refl, sym, ap, ◌∙◌, subst, arith, ⊎_elim, ℤ, pos, ◌+ℤ◌}
use Rattle.std.specs.Prelude.{◌↔◌, ◌≤ℤ◌, ◌<ℤ◌, Contains, Some, slice_get}
use Rattle.std.specs.Int.{int_max}
use Rattle.std.specs.declared.vec.Vec.{Vec}
use Rattle.std.proofs.lemmas.Bool.{cases_lt}
use Rattle.std.proofs.lemmas.Int.{ints, clamps}
use Rattle.std.proofs.lemmas.List.{get_or-map, get_or-set_other, get_or-set_same, get_or_append_left, get_or_push, length-map, length-set, length_push, map-set}
use Rattle.std.proofs.lemmas.List.Elements.{Contains-append_left, Contains-get_or, Contains-push, Contains-push_cases}
use Rattle.std.proofs.lemmas.List.Quantifiers.{all_pairs_push}
use Rattle.std.proofs.lemmas.Nat.{div-add-mod', div-mul-add, mod-mul-add, mul-le}
use Rattle.std.proofs.lemmas.Option.{slice_get-get_or, slice_get_within}
use Rattle.geom.specs.Box.{IsInBox}
use Rattle.geom.specs.declared.point.Pt.{Pt}
use Rattle.geom.specs.declared.rect.Rect.{Rect}
use Rattle.geom.proofs.Numbers.{max_left, max_right}
use Rattle.grid.specs.Bins.{AreGiven, HasPointOf, IsAmong, IsBin, MeetsTile, lists_of}
use Rattle.grid.specs.Tiles.{IsPlaced, Owns, Tiling}
use Rattle.grid.proofs.Columns.{IsColumnOf, column_from_steps, steps_from_column}

-- ---- one number more

pub given_none : (those : ℕ → Type 0) (number : ℕ) (lists : List (List ℕ)) → ((k : ℕ) → ¬ (those k)) → AreGiven those number lists lists
given_none those number lists none = record { same = refl; given = λ k l p. absurd (none k p); kept = λ k l n. refl }

-- the number is given to some tiles, and then to others
pub given_more : (P Q R : ℕ → Type 0) (number : ℕ) (old mid new : List (List ℕ)) → AreGiven P number old mid → AreGiven Q number mid new → ((k : ℕ) → R k → P k ⊎ Q k) → ((k : ℕ) → P k → R k) → ((k : ℕ) → Q k → R k) → ((k : ℕ) → P k → Q k → ⊥) → AreGiven R number old new
given_more P Q R number old mid new a b cases first second apart = record {
  same = b.same ∙ a.same;
  given = λ k l r. ⊎_elim
      (λ p. b.kept k (within k l) (λ q. apart k p q) ∙ a.given k l p)
      (λ q. b.given k (within k l) q ∙ ap (λ xs. xs ++ number ∷ []) (a.kept k l (λ p. apart k p q)))
      (cases k r);
  kept = λ k l none. b.kept k (within k l) (λ q. none (second k q)) ∙ a.kept k l (λ p. none (first k p));
}
  where
    within : (k : ℕ) → k < length old → k < length mid
    within k l = omega (arith, l, a.same)

pub given_one : {A : Type 0} (number i : ℕ) (bins : List (Vec ℕ A)) (v w : Vec ℕ A) → i < length bins → w.items ≡ (get_or bins i v).items ++ number ∷ [] → AreGiven (λ k. k ≡ i) number (lists_of bins) (lists_of (set bins i w))
given_one number i bins v w l pushed = record {
  same = ap length (map-set (λ (u : Vec ℕ _). u.items) bins i w) ∙ length-set (lists_of bins) i w.items;
  given = λ k m e.
      at_set k (get_or (set (lists_of bins) i w.items) k []) refl
      ∙ ap (λ j. get_or (set (lists_of bins) i w.items) j []) e
      ∙ get_or-set_same (lists_of bins) i w.items [] (omega (arith, l, length-map bins (λ (u : Vec ℕ _). u.items)))
      ∙ pushed
      ∙ ap (λ xs. xs ++ number ∷ []) (sym (get_or-map (λ (u : Vec ℕ _). u.items) bins i v [] l) ∙ ap (λ j. get_or (lists_of bins) j []) (sym e));
  kept = λ k m n. ap (λ ls. get_or ls k []) (map-set (λ (u : Vec ℕ _). u.items) bins i w) ∙ get_or-set_other (lists_of bins) i k w.items [] n;
}
  where
    at_set : (k : ℕ) (xs : List ℕ) → get_or (set (lists_of bins) i w.items) k [] ≡ xs → get_or (lists_of (set bins i w)) k [] ≡ xs
    at_set k xs e = ap (λ ls. get_or ls k []) (map-set (λ (u : Vec ℕ _). u.items) bins i w) ∙ e

-- the number is given to one tile after another
pub tile_more : (from tile number : ℕ) (old mid new : List (List ℕ)) → from ≤ tile → AreGiven (λ k. (from ≤ k) × (k < tile)) number old mid → AreGiven (λ k. k ≡ tile) number mid new → AreGiven (λ k. (from ≤ k) × (k < tile + 1)) number old new
tile_more from tile number old mid new within a b = given_more (λ k. (from ≤ k) × (k < tile)) (λ k. k ≡ tile) (λ k. (from ≤ k) × (k < tile + 1)) number old mid new a b
    (λ k (l, m). elim (cases_lt k tile) [
      | inl less ↦ inl (l, less)
      | inr more ↦ inr (omega (arith, m, more))
    ])
    (λ k (l, m). (l, omega (arith, m)))
    (λ k e. (omega (arith, e, within), omega (arith, e)))
    (λ k (l, m) e. absurd (omega (arith, m, e)))

-- ---- rows of a block

-- the rows of a block below a row
abbrev pub IsBelow : ℕ → ℕ × ℕ → ℕ × ℕ → ℕ → ℕ → Type 0
IsBelow width columns rows row k = IsAmong width columns rows k × (k / width < row)

module _ (width : ℕ) (columns rows : ℕ × ℕ) (row first last : ℕ) (past : columns.1 < width) (first_is : first ≡ row * width + columns.0) (last_is : last ≡ row * width + columns.1) (from : rows.0 ≤ row) (to : row < rows.1) where
  abbrev pub InRow : ℕ → Type 0
  InRow k = (first ≤ k) × (k < last + 1)

  -- a tile of the row has this row and a column
  placed : (k : ℕ) → InRow k → (k / width ≡ row) × (columns.0 ≤ k % width) × (k % width ≤ columns.1)
  placed k (l, m) =
      let c = k - row * width in
      let e : row * width + c ≡ k = omega (arith, l, first_is) in
      let within : c < width = omega (arith, m, past, l, first_is, last_is) in
      let d : k % width ≡ c = ap (λ n. n % width) (sym e) ∙ mod-mul-add row width c within in
      (ap (λ n. n / width) (sym e) ∙ div-mul-add row width c within, omega (arith, d, l, first_is), omega (arith, d, l, m, first_is, last_is))

  in_row : (k : ℕ) → IsAmong width columns rows k → k / width ≡ row → InRow k
  in_row k h e =
      let d = div-add-mod' k width in
      let f : k / width * width ≡ row * width = ap (λ n. n * width) e in
      let a = h.left in
      let b = h.right in
      (omega (arith, d, f, a, first_is), omega (arith, d, f, b, last_is))

  pub row_more : (number : ℕ) (old mid new : List (List ℕ)) → AreGiven (IsBelow width columns rows row) number old mid → AreGiven InRow number mid new → AreGiven (IsBelow width columns rows (row + 1)) number old new
  row_more number old mid new a b = given_more (IsBelow width columns rows row) InRow (IsBelow width columns rows (row + 1)) number old mid new a b
      (λ k (h, l). elim (cases_lt (k / width) row) [
        | inl less ↦ inl (h, less)
        | inr more ↦ inr (in_row k h (omega (arith, l, more)))
      ])
      (λ k (h, l). (h, omega (arith, l)))
      (λ k q. let (e, l, m) = placed k q in (record { left = l; right = m; bottom = omega (arith, e, from); top = omega (arith, e, to) }, omega (arith, e)))
      (λ k (h, l) q. let (e, m, n) = placed k q in absurd (omega (arith, e, l)))

pub row_none : (width : ℕ) (columns rows : ℕ × ℕ) (number : ℕ) (lists : List (List ℕ)) → AreGiven (IsBelow width columns rows rows.0) number lists lists
row_none width columns rows number lists = given_none (IsBelow width columns rows rows.0) number lists (λ k (h, l). let b = h.bottom in absurd (omega (arith, b, l)))

pub given_same : (P Q : ℕ → Type 0) (number : ℕ) (old new : List (List ℕ)) → ((k : ℕ) → k < length old → P k ↔ Q k) → AreGiven P number old new → AreGiven Q number old new
given_same P Q number old new same h = record { same = h.same; given = λ k l q. h.given k l ((same k l).1 q); kept = λ k l none. h.kept k l (λ p. none ((same k l).0 p)) }

pub rows_all : (width : ℕ) (columns rows : ℕ × ℕ) (row number : ℕ) (old new : List (List ℕ)) → rows.1 ≤ row → AreGiven (IsBelow width columns rows row) number old new → AreGiven (IsAmong width columns rows) number old new
rows_all width columns rows row number old new past =
    given_same (IsBelow width columns rows row) (IsAmong width columns rows) number old new (λ k _. (λ (h, l). h, λ h. (h, let t = h.top in omega (arith, t, past))))

-- ---- the tiles that a box meets

-- a greater number has no lesser column
column_up : (low a z : ℤ) (side j k : ℕ) → IsColumnOf low side a j → IsColumnOf low side z k → a ≤ℤ z → j ≤ k
column_up low a z side j k h g o = elim (cases_lt k j) [
  | inl less ↦
      let m : suc k * side ≤ j * side = mul-le (suc k) side j side (omega arith) (omega arith) in
      let d : suc k * side ≡ k * side + side = omega arith in
      absurd (apart low a z (k * side + side) (j * side) h.from g.to o (omega (arith, m, d)))
  | inr more ↦ omega (arith, more)
]
  where
    apart : (low a z : ℤ) (m n : ℕ) → (low +ℤ pos n) ≤ℤ a → z <ℤ (low +ℤ pos m) → a ≤ℤ z → m ≤ n → ⊥
    apart low a z m n h g o l = omega (arith, ints)

-- a column between those of two numbers has a number between these
record Reached (low a b : ℤ) (side k : ℕ) : Type 0 where
  pub at : ℤ
  pub from : a ≤ℤ at
  pub to : at ≤ℤ b
  pub column : IsColumnOf low side at k

reached : (low a b : ℤ) (side i j k : ℕ) → 0 < side → IsColumnOf low side a i → IsColumnOf low side b j → a ≤ℤ b → i ≤ k → k ≤ j → Reached low a b side k
reached low a b side i j k s h g o l m =
    let up : i * side ≤ k * side = mul-le i side k side l (omega arith) in
    let down : k * side ≤ j * side = mul-le k side j side m (omega arith) in
    record {
      at = int_max a (low +ℤ pos (k * side));
      from = max_left a (low +ℤ pos (k * side));
      to = both low a b (k * side) (j * side) o down g.from;
      column = record { from = max_right a (low +ℤ pos (k * side)); to = below low a (i * side) (k * side) side s up h.to };
    }
  where
    both : (low a b : ℤ) (m n : ℕ) → a ≤ℤ b → m ≤ n → (low +ℤ pos n) ≤ℤ b → int_max a (low +ℤ pos m) ≤ℤ b
    both low a b m n o l g = omega (arith, ints, clamps)

    below : (low a : ℤ) (m n side : ℕ) → 0 < side → m ≤ n → a <ℤ (low +ℤ pos (m + side)) → int_max a (low +ℤ pos n) <ℤ (low +ℤ pos (n + side))
    below low a m n side s l g = omega (arith, ints, clamps)

module _ (g : Tiling) (rect : Rect) (lo hi : ℕ × ℕ) (some : 0 < g.side) (low : IsPlaced g rect.lo lo) (high : IsPlaced g rect.hi hi) where
  left : IsColumnOf g.left g.side rect.lo.x lo.0
  left = column_from_steps g.left rect.lo.x g.side lo.0 some low.column_is

  right : IsColumnOf g.left g.side rect.hi.x hi.0
  right = column_from_steps g.left rect.hi.x g.side hi.0 some high.column_is

  bottom : IsColumnOf g.bottom g.side rect.lo.y lo.1
  bottom = column_from_steps g.bottom rect.lo.y g.side lo.1 some low.row_is

  top : IsColumnOf g.bottom g.side rect.hi.y hi.1
  top = column_from_steps g.bottom rect.hi.y g.side hi.1 some high.row_is

  pub columns_up : lo.0 ≤ hi.0
  columns_up = column_up g.left rect.lo.x rect.hi.x g.side lo.0 hi.0 left right rect.wide

  -- the block of the tiles that the box meets
  abbrev pub InBlock : ℕ → Type 0
  InBlock k = IsAmong g.columns (lo.0, hi.0) (lo.1, hi.1 + 1) k

  pub meets : (k : ℕ) → InBlock k → HasPointOf g k rect
  meets k h =
      let x = reached g.left rect.lo.x rect.hi.x g.side lo.0 hi.0 (k % g.columns) some left right rect.wide h.left h.right in
      let y = reached g.bottom rect.lo.y rect.hi.y g.side lo.1 hi.1 (k / g.columns) some bottom top rect.high h.bottom (let t = h.top in omega (arith, t)) in (
        record { x = x.at; y = y.at },
        record { left = x.from; right = x.to; bottom = y.from; top = y.to },
        record {
          column = k % g.columns;
          row = k / g.columns;
          column_is = steps_from_column g.left x.at g.side (k % g.columns) some x.column;
          row_is = steps_from_column g.bottom y.at g.side (k / g.columns) some y.column;
          in_columns = let r = h.right in let c = high.in_columns in omega (arith, r, c);
          in_rows = let t = h.top in let r = high.in_rows in omega (arith, t, r);
          number_is = sym (div-add-mod' k g.columns);
        },
      )

  pub among : (k : ℕ) → HasPointOf g k rect → InBlock k
  among k (p, inside, owned) =
      let c : k % g.columns ≡ owned.column = ap (λ n. n % g.columns) owned.number_is ∙ mod-mul-add owned.row g.columns owned.column owned.in_columns in
      let r : k / g.columns ≡ owned.row = ap (λ n. n / g.columns) owned.number_is ∙ div-mul-add owned.row g.columns owned.column owned.in_columns in
      let x = column_from_steps g.left p.x g.side owned.column some owned.column_is in
      let y = column_from_steps g.bottom p.y g.side owned.row some owned.row_is in
      let a = column_up g.left rect.lo.x p.x g.side lo.0 owned.column left x inside.left in
      let b = column_up g.left p.x rect.hi.x g.side owned.column hi.0 x right inside.right in
      let d = column_up g.bottom rect.lo.y p.y g.side lo.1 owned.row bottom y inside.bottom in
      let e = column_up g.bottom p.y rect.hi.y g.side owned.row hi.1 y top inside.top in
      record { left = omega (arith, a, c); right = omega (arith, b, c); bottom = omega (arith, d, r); top = omega (arith, e, r) }

pub decided : (width : ℕ) (columns rows : ℕ × ℕ) (k : ℕ) → IsAmong width columns rows k ⊎ (IsAmong width columns rows k → ⊥)
decided width columns rows k = elim (cases_lt (k % width) columns.0) [
  | inl a ↦ inr (λ h. let l = h.left in absurd (omega (arith, a, l)))
  | inr a ↦ elim (cases_lt columns.1 (k % width)) [
    | inl b ↦ inr (λ h. let l = h.right in absurd (omega (arith, b, l)))
    | inr b ↦ elim (cases_lt (k / width) rows.0) [
      | inl c ↦ inr (λ h. let l = h.bottom in absurd (omega (arith, c, l)))
      | inr c ↦ elim (cases_lt (k / width) rows.1) [
        | inl d ↦ inl (record { left = omega (arith, a); right = omega (arith, b); bottom = omega (arith, c); top = d })
        | inr d ↦ inr (λ h. let l = h.top in absurd (omega (arith, d, l)))
      ]
    ]
  ]
]

-- ---- one box more

box_before : (boxes : List Rect) (rect b : Rect) (n : ℕ) → n < length boxes → slice_get (boxes ++ rect ∷ []) n ≡ slice_get boxes n
box_before boxes rect b n l =
    slice_get-get_or (boxes ++ rect ∷ []) n b (omega (arith, l, length_push boxes rect)) ∙ ap Some (get_or_append_left boxes (rect ∷ []) b n l) ∙ sym (slice_get-get_or boxes n b l)

box_last : (boxes : List Rect) (rect : Rect) → slice_get (boxes ++ rect ∷ []) (length boxes) ≡ Some rect
box_last boxes rect = slice_get-get_or (boxes ++ rect ∷ []) (length boxes) rect (omega (arith, length_push boxes rect)) ∙ ap Some (get_or_push boxes rect rect (length boxes) refl)

some_same : {b c : Rect} → Some b ≡ Some c → b ≡ c
some_same {b} {c} e = cc

module _ (g : Tiling) (k : ℕ) (boxes : List Rect) (rect : Rect) (bin : List ℕ) (h : IsBin g k boxes bin) where
  still : (number : ℕ) → MeetsTile g k boxes number → MeetsTile g k (boxes ++ rect ∷ []) number
  still number (b, is, met) = (b, box_before boxes rect b number (slice_get_within boxes number b is) ∙ is, met)

  -- what meets the tile among the boxes and one more
  was : (number : ℕ) → MeetsTile g k (boxes ++ rect ∷ []) number → MeetsTile g k boxes number ⊎ ((number ≡ length boxes) × ((p : Pt) × IsInBox rect.lo rect.hi p × Owns g k p))
  was number (b, is, met) = elim (cases_lt number (length boxes)) [
    | inl less ↦ inl (b, sym (box_before boxes rect b number less) ∙ is, met)
    | inr more ↦
        let l = slice_get_within (boxes ++ rect ∷ []) number b is in
        let e : number ≡ length boxes = omega (arith, more, l, length_push boxes rect) in
        let f : b ≡ rect = some_same (sym is ∙ ap (λ n. slice_get (boxes ++ rect ∷ []) n) e ∙ box_last boxes rect) in
        inr (e, subst (λ (c : Rect). (p : Pt) × IsInBox c.lo c.hi p × Owns g k p) f met)
  ]

  pub bin_given : HasPointOf g k rect → IsBin g k (boxes ++ rect ∷ []) (bin ++ length boxes ∷ [])
  bin_given met = record {
    ascending = all_pairs_push (λ i j. i < j) bin (length boxes) h.ascending (λ n d l. let (b, is, m) = (h.exact (get_or bin n d)).0 (Contains-get_or bin n d l) in slice_get_within boxes (get_or bin n d) b is);
    exact = λ number. (
      λ c. ⊎_elim (λ i. still number ((h.exact number).0 i)) (λ e. (rect, ap (λ n. slice_get (boxes ++ rect ∷ []) n) (sym e) ∙ box_last boxes rect, met)) (Contains-push_cases bin (length boxes) number c),
      λ m. ⊎_elim (λ i. Contains-append_left bin (length boxes ∷ []) number ((h.exact number).1 i)) (λ (e, i). subst (λ n. Contains (bin ++ length boxes ∷ []) n) (sym e) (Contains-push bin (length boxes))) (was number m),
    );
  }

  pub bin_kept : ¬ (HasPointOf g k rect) → IsBin g k (boxes ++ rect ∷ []) bin
  bin_kept none = record {
    ascending = h.ascending;
    exact = λ number. (λ c. still number ((h.exact number).0 c), λ m. ⊎_elim (λ i. (h.exact number).1 i) (λ (e, i). absurd (none i)) (was number m));
  }
