-- Lines that are given to strips.
use Rattle.std.proofs.Common.{◌≡◌, ◌⊎◌, inl, inr, ℕ, ◌+◌, ◌<◌, ◌≤◌, List, [], ◌∷◌, ◌++◌, Bool, true, false, cond, refl, sym, ap, ◌∙◌, append-nil, subst, arith, length, get_or, set}
use Rattle.std.specs.Prelude.{◌&&◌, nat_le, nat_lt, ℤ}
use Rattle.std.specs.declared.vec.Vec.{Vec}
use Rattle.std.proofs.lemmas.Bool.{and_right, cases_eq, cases_lt, le-leb, le-ltb, lt-leb, lt-ltb}
use Rattle.std.proofs.lemmas.List.{get_or-map, get_or-set_other, get_or-set_same, length-map, length-set, map-set}
use Rattle.std.proofs.lemmas.List.Elements.{filter-append}
use Rattle.geom.specs.declared.segment.Seg.{Seg}
use Rattle.strips_law.specs.declared.line.Line.{Line}
use Rattle.strips_law.specs.Strips.{AreLinesFrom, IsOriented, lines_in, reaches, strip_at}
use Rattle.phases.specs.Scattered.{AddsLine, AreByStrip, lists_of}

-- the lists of the strips from the first to before another have the line at their end
pub record IsGiven (first past : ℕ) (line : Line) (old new : List (List Line)) : Type 0 where
  pub same : length new ≡ length old
  pub each : (strip : ℕ) → strip < length old → get_or new strip [] ≡ get_or old strip [] ++ cond (nat_le first strip && nat_lt strip past) (line ∷ []) []

pub given_none : (first : ℕ) (line : Line) (lists : List (List Line)) → IsGiven first first line lists lists
given_none first line lists = record { same = refl; each = λ k l. sym (ap (λ (b : Bool). get_or lists k [] ++ cond b (line ∷ []) []) (none k) ∙ append-nil (get_or lists k [])) }
  where
    none : (k : ℕ) → (nat_le first k && nat_lt k first) ≡ false
    none k = elim (cases_lt k first) [
      | inl less ↦ ap (λ (b : Bool). b && nat_lt k first) (lt-leb first k less)
      | inr from ↦ ap (λ (b : Bool). nat_le first k && b) (le-ltb k first from) ∙ and_right (nat_le first k) false refl
    ]

below_next : (k past : ℕ) → (k ≡ past → ⊥) → nat_lt k (past + 1) ≡ nat_lt k past
below_next k past n = elim (cases_lt k past) [
  | inl l ↦ lt-ltb k (past + 1) (omega (arith, l)) ∙ sym (lt-ltb k past l)
  | inr m ↦ le-ltb k (past + 1) (omega (arith, m, n)) ∙ sym (le-ltb k past m)
]

module _ {A : Type 0} (first past : ℕ) (line : Line) (old : List (List Line)) (lists : List (Vec Line A)) (v w : Vec Line A) (low : first ≤ past) (inside : past < length lists) (pushed : w.items ≡ (get_or lists past v).items ++ line ∷ []) (h : IsGiven first past line old (lists_of lists)) where
  changed : lists_of (set lists past w) ≡ set (lists_of lists) past w.items
  changed = map-set (λ (u : Vec Line A). u.items) lists past w

  size : length (lists_of lists) ≡ length lists
  size = length-map lists (λ (u : Vec Line A). u.items)

  here : get_or (lists_of (set lists past w)) past [] ≡ get_or old past [] ++ cond (nat_le first past && nat_lt past (past + 1)) (line ∷ []) []
  here =
      ap (λ (ls : List (List Line)). get_or ls past []) changed
      ∙ get_or-set_same (lists_of lists) past w.items [] (omega (arith, inside, size))
      ∙ pushed
      ∙ ap (λ (xs : List Line). xs ++ line ∷ [])
      (sym (get_or-map (λ (u : Vec Line A). u.items) lists past v [] inside)
      ∙ h.each past (let s = h.same in omega (arith, s, size, inside))
      ∙ ap (λ (b : Bool). get_or old past [] ++ cond (nat_le first past && b) (line ∷ []) []) (le-ltb past past (omega arith))
      ∙ ap (λ (b : Bool). get_or old past [] ++ cond (b && false) (line ∷ []) []) (le-leb first past low)
      ∙ append-nil (get_or old past []))
      ∙ sym (ap (λ (b : Bool). get_or old past [] ++ cond (b && nat_lt past (past + 1)) (line ∷ []) []) (le-leb first past low) ∙ ap (λ (b : Bool). get_or old past [] ++ cond (true && b) (line ∷ []) []) (lt-ltb past (past + 1) (omega arith)))

  there : (k : ℕ) → k < length old → (k ≡ past → ⊥) → get_or (lists_of (set lists past w)) k [] ≡ get_or old k [] ++ cond (nat_le first k && nat_lt k (past + 1)) (line ∷ []) []
  there k l n =
      ap (λ (ls : List (List Line)). get_or ls k []) changed
      ∙ get_or-set_other (lists_of lists) past k w.items [] n
      ∙ h.each k l
      ∙ ap (λ (b : Bool). get_or old k [] ++ cond (nat_le first k && b) (line ∷ []) []) (sym (below_next k past n))

  pub given_more : IsGiven first (past + 1) line old (lists_of (set lists past w))
  given_more = record {
    same = ap length changed ∙ length-set (lists_of lists) past w.items ∙ h.same;
    each = λ k l. elim (cases_eq k past) [
      | inl e ↦ subst (λ (j : ℕ). get_or (lists_of (set lists past w)) j [] ≡ get_or old j [] ++ cond (nat_le first j && nat_lt j (past + 1)) (line ∷ []) []) (sym e) here
      | inr n ↦ there k l n
    ];
  }

-- all strips that the line reaches were passed
pub all_given : (cuts : List ℤ) (first last past : ℕ) (line : Line) (old new : List (List Line)) → first ≡ strip_at cuts line.segment.a → last ≡ strip_at cuts line.segment.b → last + 1 ≤ past → (past ≤ last + 1) ⊎ (past ≡ first) → IsGiven first past line old new → AddsLine cuts line old new
all_given cuts first last past line old new first_is last_is reached or h = record {
  same = h.same;
  each = λ k l. h.each k l ∙ ap (λ (b : Bool). get_or old k [] ++ cond b (line ∷ []) []) (those k ∙ ap (λ (p : ℕ × ℕ). nat_le p.0 k && nat_le k p.1) (λ i. (first_is i, last_is i)));
}
  where
    those : (k : ℕ) → (nat_le first k && nat_lt k past) ≡ (nat_le first k && nat_le k last)
    those k = elim (cases_lt k first) [
      | inl less ↦ ap (λ (b : Bool). b && nat_lt k past) (lt-leb first k less) ∙ sym (ap (λ (b : Bool). b && nat_le k last) (lt-leb first k less))
      | inr from ↦ ap (λ (b : Bool). nat_le first k && b) (elim (cases_lt last k) [
        | inl behind ↦ le-ltb k past (elim or [ inl a ↦ omega (arith, a, behind) | inr a ↦ omega (arith, a, from) ]) ∙ sym (lt-leb k last behind)
        | inr within ↦ lt-ltb k past (omega (arith, within, reached)) ∙ sym (le-leb k last within)
      ])
    ]

-- one line more
pub scattered_more : (cuts : List ℤ) (lines : List Line) (line : Line) (old new : List (List Line)) → AreByStrip cuts lines old → AddsLine cuts line old new → AreByStrip cuts (lines ++ line ∷ []) new
scattered_more cuts lines line old new h a = record {
  one_each = a.same ∙ h.one_each;
  each = λ k l. let m : k < length old = let s = a.same in omega (arith, s, l) in a.each k m ∙ ap (λ (xs : List Line). xs ++ lines_in cuts k (line ∷ [])) (h.each k m) ∙ sym (filter-append (λ (l : Line). reaches cuts k l.segment) lines (line ∷ []));
}

pub lines_push : (k : ℕ) (segments : List Seg) (lines : List Line) (s : Seg) (line : Line) → AreLinesFrom k segments lines → line.number ≡ k + length segments → IsOriented s line.segment → AreLinesFrom k (segments ++ s ∷ []) (lines ++ line ∷ [])
lines_push k [] [] s line h e o = (omega (arith, e), o, tt)
lines_push k [] (l ∷ ls) s line h e o = absurd h
lines_push k (t ∷ ss) [] s line h e o = absurd h
lines_push k (t ∷ ss) (l ∷ ls) s line h e o = (h.0, h.1, lines_push (k + 1) ss ls s line h.2 (omega (arith, e)) o)
