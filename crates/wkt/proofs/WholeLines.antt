-- A text that is read in parts of whole lines.
use Rattle.std.proofs.Common.{◌≡◌, ◌∙◌, ℕ, ◌+◌, ◌-◌, ◌<◌, ◌≤◌, List, [], ◌∷◌, ◌++◌, All, length, drop, flat_map, get_or, append_assoc, sym, ap, subst, arith}
use Rattle.std.specs.Prelude.{Vec, slice_range}
use Rattle.std.specs.List.{AllZip}
use Rattle.std.proofs.Math.Seq.{drop-length}
use Rattle.std.proofs.lemmas.List.{append-nil, drop_more}
use Rattle.std.proofs.lemmas.List.Elements.{All-nil, All-cons, All-head, All-push, All-tail}
use Rattle.std.proofs.lemmas.List.Concat.{flat_map-append}
use Rattle.std.proofs.lemmas.List.Folds.{drop_split}
use Rattle.geom.specs.declared.point.Pt.{Pt}
use Rattle.hands.specs.declared.part.Part.{Part}
use Rattle.hands.specs.Consecutive.{ArePartsOf}
use Rattle.wkt.specs.declared.outline.Outline.{Outline}
use Rattle.wkt.specs.WholeLines.{AreWholeLines}
use Rattle.wkt.specs.Outlines.{IsOutline, IsOutlined}
use Rattle.hands.proofs.Consecutive.{ascend, each_part, one_more}

-- what texts stand for: a text of two texts, with a line feed between them, for what the first stands for and then what the second does
abbrev pub Parts : {X : Type 0} → (List ℕ → List X → Type 0) → Type 0
Parts {X} Stands = (t u : List ℕ) (xs ys : List X) → Stands t xs → Stands u ys → Stands (t ++ 10 ∷ u) (xs ++ ys)

-- what a text and a line feed behind it stand for, and more
line_behind : {X : Type 0} (Stands : List ℕ → List X → Type 0) → Parts Stands → (text : List ℕ) (from past : ℕ) (xs more : List X) → from < past → past ≤ length text → get_or text (past - 1) 0 ≡ 10
    → Stands (slice_range text from (past - 1)) xs → Stands (drop past text) more → Stands (drop from text) (xs ++ more)
line_behind Stands parts text from past xs more some inside ends first rest = subst (λ t. Stands t (xs ++ more)) (sym is) (parts (slice_range text from (past - 1)) (drop past text) xs more first rest)
  where
    at : drop (past - 1) text ≡ 10 ∷ drop past text
    at = drop_more text (past - 1) 0 (omega (arith, some, inside)) ∙ ap (λ b. b ∷ drop (past - 1 + 1) text) ends ∙ ap (λ n. 10 ∷ drop n text) (omega (arith, some))

    is : drop from text ≡ slice_range text from (past - 1) ++ 10 ∷ drop past text
    is = drop_split text from (past - 1) (omega (arith, some)) ∙ ap (λ l. slice_range text from (past - 1) ++ l) at

-- the whole stands for what its parts stand for
pub lines_from : {X Y : Type 0} (Stands : List ℕ → List X → Type 0) → Parts Stands → (of : Y → List X) (P : List ℕ → Y → Type 0) → ((t : List ℕ) (y : Y) → P t y → Stands t (of y))
    → (text : List ℕ) (from : ℕ) (ps : List Part) (ys : List Y) → from ≤ length text → ArePartsOf from (length text + 1) ps → All (AreWholeLines text) ps
    → AllZip (λ (p : Part) y. P (slice_range text p.from (p.past - 1)) y) ps ys → Stands (drop from text) (flat_map of ys)
unfolding ArePartsOf
lines_from Stands both of P stands text from [] ys inside parts lines zip = absurd (omega (arith, inside, parts))
lines_from Stands both of P stands text from (p ∷ ps) [] inside parts lines zip = absurd zip
lines_from Stands both of P stands text from (p ∷ []) (x ∷ (y ∷ ys)) inside parts lines zip = absurd zip.1
lines_from Stands both of P stands text from (p ∷ (q ∷ ps)) (x ∷ []) inside parts lines zip = absurd zip.1
lines_from Stands both of P stands text from (p ∷ []) (x ∷ []) inside parts lines zip =
    let last : p.past - 1 ≡ length text = omega (arith, parts.2) in
    let is : slice_range text p.from (p.past - 1) ≡ drop from text =
    (λ i. slice_range text (parts.0 i) (last i)) ∙ sym (append-nil (slice_range text from (length text))) ∙ ap (λ l. slice_range text from (length text) ++ l) (sym (drop-length text)) ∙ sym (drop_split text from (length text) inside) in
    subst (λ xs. Stands (drop from text) xs) (sym (append-nil (of x))) (subst (λ t. Stands t (of x)) is (stands (slice_range text p.from (p.past - 1)) x zip.0))
lines_from Stands both of P stands text from (p ∷ (q ∷ ps)) (x ∷ (y ∷ ys)) inside parts lines zip =
    let own = All-head (AreWholeLines text) p (q ∷ ps) lines in
    let others = All-tail (AreWholeLines text) p (q ∷ ps) lines in
    let next = All-head (AreWholeLines text) q ps others in
    let before : p.past ≤ length text = omega (arith, next.some, parts.2.0, ascend q.past (length text + 1) ps parts.2.2) in
    line_behind Stands both text from p.past (of x) (flat_map of (y ∷ ys)) (omega (arith, parts.0, own.some)) before (own.ends before)
    (subst (λ n. Stands (slice_range text n (p.past - 1)) (of x)) parts.0 (stands (slice_range text p.from (p.past - 1)) x zip.0))
    (lines_from Stands both of P stands text p.past (q ∷ ps) (y ∷ ys) before parts.2 others zip.1)

-- what is so of what is read of each part
pub each_read : {Y : Type 0} (P : List ℕ → Y → Type 0) (Q : Y → Type 0) → ((t : List ℕ) (y : Y) → P t y → Q y) → (text : List ℕ) (ps : List Part) (ys : List Y) → AllZip (λ (p : Part) y. P (slice_range text p.from (p.past - 1)) y) ps ys → All Q ys
each_read P Q tells text [] [] zip = All-nil Q
each_read P Q tells text [] (y ∷ ys) zip = absurd zip
each_read P Q tells text (p ∷ ps) [] zip = absurd zip
each_read P Q tells text (p ∷ ps) (y ∷ ys) zip = All-cons Q y ys (tells (slice_range text p.from (p.past - 1)) y zip.0) (each_read P Q tells text ps ys zip.1)

-- each part lies in the text and the line feed behind it
pub may_read : (text : List ℕ) (ps : List Part) → ArePartsOf 0 (length text + 1) ps → All (AreWholeLines text) ps → All (λ (p : Part). (p.from < p.past) × (p.past ≤ length text + 1)) ps
may_read text ps parts lines k d within = ((lines k d within).some, each_part (λ (p : Part). p.past ≤ length text + 1) 0 (length text + 1) ps parts (λ p low order high. high) k d within)

-- one more part of whole lines
pub line_more : (text : List ℕ) (from past : ℕ) (p : Part) (ps : List Part) → ArePartsOf 0 from ps → All (AreWholeLines text) ps → p.from ≡ from → p.past ≡ past → from < past → (past ≤ length text → get_or text (past - 1) 0 ≡ 10)
    → ArePartsOf 0 past (ps ++ p ∷ []) × All (AreWholeLines text) (ps ++ p ∷ [])
line_more text from past p ps parts lines begins is some ends = (
  subst (λ n. ArePartsOf 0 n (ps ++ p ∷ [])) is (one_more 0 from p ps parts begins (omega (arith, is, some))),
  All-push (AreWholeLines text) ps p lines (record { some = omega (arith, begins, is, some); ends = subst (λ n. n ≤ length text → get_or text (n - 1) 0 ≡ 10) (sym is) ends }),
)

-- the part behind all others
pub last_line : (text : List ℕ) (from : ℕ) (p : Part) (ps : List Part) → ArePartsOf 0 from ps → All (AreWholeLines text) ps → p.from ≡ from → p.past ≡ length text + 1 → from ≤ length text
    → ArePartsOf 0 (length text + 1) (ps ++ p ∷ []) × All (AreWholeLines text) (ps ++ p ∷ [])
last_line text from p ps parts lines begins is inside =
    line_more text from (length text + 1) p ps parts lines begins is (omega (arith, inside)) (λ short. absurd (omega (arith, short)))

-- the outline of one more part's rings behind those of others
pub outline_more : {M : Type 0} (lists : List (Vec (List Pt) M)) (x : Outline × Vec (List Pt) M) (rest : List (Outline × Vec (List Pt) M)) (all : List (List Pt)) (outline both : Outline)
    → IsOutline (flat_map (λ v. v.items) lists) outline → All IsOutlined (x ∷ rest) → flat_map (λ v. v.items) lists ++ flat_map (λ y. y.1.items) (x ∷ rest) ≡ all
    → ((rings more : List (List Pt)) → IsOutline rings outline → IsOutline more x.0 → IsOutline (rings ++ more) both)
    → IsOutline (flat_map (λ v. v.items) (lists ++ x.1 ∷ [])) both × All IsOutlined rest × (flat_map (λ v. v.items) (lists ++ x.1 ∷ []) ++ flat_map (λ y. y.1.items) rest ≡ all)
outline_more {M} lists x rest all outline both is others same joined = (
  subst (λ rings. IsOutline rings both) (sym more) (joined (flat_map (λ v. v.items) lists) x.1.items is (All-head IsOutlined x rest others)),
  All-tail IsOutlined x rest others,
  ap (λ rings. rings ++ flat_map (λ y. y.1.items) rest) more ∙ append_assoc (flat_map (λ v. v.items) lists) x.1.items (flat_map (λ y. y.1.items) rest) ∙ same,
)
  where
    more : flat_map (λ v. v.items) (lists ++ x.1 ∷ []) ≡ flat_map (λ v. v.items) lists ++ x.1.items
    more = flat_map-append (λ (v : Vec (List Pt) M). v.items) lists (x.1 ∷ []) ∙ ap (λ rings. flat_map (λ v. v.items) lists ++ rings) (append-nil x.1.items)
