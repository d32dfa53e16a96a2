use Rattle.std.proofs.Common.{rules, ◌≡◌, ◌++◌, ℤ, List, [], ◌∷◌, ℕ, append_assoc, codes, of_z, to_z}
use Rattle.std.specs.Fmt.{signed_decimal}
use Rattle.std.specs.Int.{w64}
use Rattle.engine.proofs.measures_lines.push_areas.Goals as goal

-- three numbers behind a word, with blanks between them and a line feed behind
numbers_pushed : (word : List ℕ) (a b r a' b' r' : ℤ) (text named past_a blank_a past_b blank_b past_r new : List ℕ) → a' ≡ a → b' ≡ b → r' ≡ r
    → named ≡ text ++ word → past_a ≡ named ++ signed_decimal a' → blank_a ≡ past_a ++ 32 ∷ [] → past_b ≡ blank_a ++ signed_decimal b' → blank_b ≡ past_b ++ 32 ∷ []
    → past_r ≡ blank_b ++ signed_decimal r' → new ≡ past_r ++ 10 ∷ []
    → new ≡ text ++ (word ++ (signed_decimal a ++ 32 ∷ (signed_decimal b ++ 32 ∷ (signed_decimal r ++ 10 ∷ []))))
numbers_pushed word a b r a' b' r' text named past_a blank_a past_b blank_b past_r new of_a of_b of_r e1 e2 e3 e4 e5 e6 e7 = rw (e7, e6, e5, e4, e3, e2, e1, of_a, of_b, of_r) (simp append_assoc)

pub returns : goal.returns
returns g c =
    let m = c.args.measures.now in
    let a : to_z w64 (of_z w64 m.a.twice_area) ≡ m.a.twice_area = search rules in
    let b : to_z w64 (of_z w64 m.b.twice_area) ≡ m.b.twice_area = search rules in
    let r : to_z w64 (of_z w64 m.twice_area) ≡ m.twice_area = search rules in
    numbers_pushed (codes "area2 ") m.a.twice_area m.b.twice_area m.twice_area _ _ _ c.args.text.now.items
    c.extend_from_slice.new.self.items c.push_area.new.text.items c.push.new.self.items c.push_area-2.new.text.items c.push-2.new.self.items c.push_area-3.new.text.items c.push-3.new.self.items
    a b r c.in_ok-extend_from_slice.ensures.items c.in_ok-push_area.ensures c.in_ok-push.ensures.items c.in_ok-push_area-2.ensures c.in_ok-push-2.ensures.items c.in_ok-push_area-3.ensures c.in_ok-push-3.ensures.items
