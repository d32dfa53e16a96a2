use Rattle.std.proofs.Common.{◌≡◌, ℕ, zero, suc, List, [], ◌∷◌, ◌++◌, append_assoc, arith}
use Rattle.std.specs.Prelude.{All}
use Rattle.geom.specs.declared.point.Pt.{Pt}
use Rattle.wkt.specs.Canonical.{listed, more_of, ring_text}
use Rattle.wkt.specs.Readable.{IsReadable}
use Rattle.wkt.proofs.write.push_polygon.Goals as goal

one_listed : {X : Type 0} (f : X → List ℕ) (old a b c d : List ℕ) (x : X) (xs : List X) → a ≡ old ++ 40 ∷ [] → b ≡ a ++ f x → c ≡ b ++ more_of f xs → d ≡ c ++ 41 ∷ [] → d ≡ old ++ listed f x xs
one_listed f old a b c d x xs begun first more ended = rw (ended, more, first, begun) (simp append_assoc)

one_before : (ring : List Pt) (rings : List (List Pt)) → IsReadable ring → All IsReadable rings → All IsReadable (ring ∷ rings)
one_before ring rings first rest zero d h = first
one_before ring rings first rest (suc k) d h = rest k d (omega (arith, h))

pub returns-clause-text : goal.returns-clause-text
returns-clause-text g c = one_listed ring_text c.args.text.now.items c.push.new.self.items c.push_ring.new.text.items c.push_more_rings.new.text.items c.push-2.new.self.items c.args.polygon.now.shell c.args.polygon.now.holes
    c.in_ok-push.ensures.items (rw c.shell.ensures at c.in_ok-push_ring.ensures.text) (rw c.holes.ensures at c.in_ok-push_more_rings.ensures.text) c.in_ok-push-2.ensures.items

pub returns-clause-readable : goal.returns-clause-readable
returns-clause-readable g c = one_before c.args.polygon.now.shell c.args.polygon.now.holes (rw c.shell.ensures at c.in_ok-push_ring.ensures.readable) (rw c.holes.ensures at c.in_ok-push_more_rings.ensures.readable)
