-- What may still come at each place of the machine, and that a step of the machine goes from one to the next.
use Rattle.std.proofs.Common.{◌≡◌, ℕ, Bool, true, false, ◌⊎◌, List, [], ◌∷◌, ◌++◌, drop}
use Rattle.std.specs.Prelude.{IsTrue}
use Rattle.std.specs.List.{AllByRecursion}
use Rattle.wkt.specs.declared.places.Place.{Place}
use Rattle.wkt.specs.declared.places.Place.TheVariants.{Between, Keyword, KeywordGap, Empty, Ended, BeforeBody, BeforeRing, BeforePoint, MinusX, DigitsX, BeforeY, MinusY, DigitsY, AfterPoint, AfterRing, AfterBody}
use Rattle.wkt.specs.LayerText.{Number, Point, Ring, is_digit, Spaces, Gap, Word, value_after, Digits, IsNumber, IsPoint, More, IsRing, IsBody, joined, multipolygon_word, empty_word, IsSingle, IsMulti, Geometries, IsLayerAt}
use Rattle.wkt.specs.Machine.{Notes, signed, with_ring}

abbrev pub AllDigits : List ℕ → Type 0
AllDigits ds = AllByRecursion (λ b. IsTrue (is_digit b)) ds

-- more geometries, behind one
abbrev pub RestLayer : ℕ → List Ring → List ℕ → List Ring → Type 0
RestLayer n done t v = (gs : List (List Ring)) × Geometries n t gs × (v ≡ done ++ joined gs)

-- behind a body of a list of bodies
abbrev pub RestBodies : ℕ → List Ring → List ℕ → List Ring → Type 0
RestBodies n done t v = (bodies : List (List Ring)) × (w : List ℕ) × More (IsBody n) t bodies w × RestLayer n (done ++ joined bodies) w v

-- behind a body
abbrev pub RestBody : ℕ → Bool → List Ring → List ℕ → List Ring → Type 0
RestBody n true done t v = RestBodies n done t v
RestBody n false done t v = RestLayer n done t v

-- behind a ring
abbrev pub RestRings : ℕ → Bool → List Ring → List ℕ → List Ring → Type 0
RestRings n multi done t v = (rs : List Ring) × (w : List ℕ) × More (IsRing n) t rs w × RestBody n multi (done ++ rs) w v

-- behind a point
abbrev pub RestPoints : ℕ → Notes → List Point → List ℕ → List Ring → Type 0
RestPoints n m points t v = (ps : List Point) × (w : List ℕ) × More (IsPoint n) t ps w × RestRings n m.multi (with_ring m (points ++ ps)) w v

-- behind a point's second number
abbrev pub RestY : ℕ → Notes → Number → List ℕ → List Ring → Type 0
RestY n m y t v = RestPoints n m (m.points ++ record { x = m.x; y = y } ∷ []) t v

-- before a point's second number
abbrev pub RestGap : ℕ → Notes → Number → List ℕ → List Ring → Type 0
RestGap n m x t v = (y : Number) × (u : List ℕ) × IsNumber n t y u × RestPoints n m (m.points ++ record { x = x; y = y } ∷ []) u v

-- behind a point's first number
abbrev pub RestX : ℕ → Notes → Number → List ℕ → List Ring → Type 0
RestX n m x t v = (u : List ℕ) × Gap t u × RestGap n m x u v

-- the rest of a number's digits
abbrev pub RestDigits : Notes → List ℕ → Number → List ℕ → Type 0
RestDigits m t x u = (ds : List ℕ) × AllDigits ds × (t ≡ ds ++ u) × (x ≡ record { at = m.number_at; value = signed m.negative (value_after m.magnitude ds) })

-- behind a number's sign
abbrev pub AllOfDigits : Notes → List ℕ → Number → List ℕ → Type 0
AllOfDigits m t x u = (k : ℕ) × Digits t k u × (x ≡ record { at = m.number_at; value = signed m.negative k })

-- the bodies of a geometry of this kind
abbrev pub IsInner : Bool → ℕ → List ℕ → List Ring → List ℕ → Type 0
IsInner true n t rs w = IsMulti n t rs w
IsInner false n t rs w = IsSingle n t rs w

abbrev pub RestInner : ℕ → Notes → List ℕ → List Ring → Type 0
RestInner n m t v = (rs : List Ring) × (w : List ℕ) × IsInner m.multi n t rs w × RestLayer n (m.rings ++ rs) w v

-- what may come at a place, and stands with what was noted for these rings
abbrev pub Rest : ℕ → Place → Notes → List ℕ → List Ring → Type 0
Rest n Between m t v = (rs : List Ring) × IsLayerAt n t rs × (v ≡ m.rings ++ rs)
Rest n (Keyword k) m t v = (u : List ℕ) × Word (drop k multipolygon_word) t u × (RestInner n m u v ⊎ ((w x : List ℕ) × Gap u w × Word empty_word w x × RestLayer n m.rings x v))
Rest n KeywordGap m t v = RestInner n m t v ⊎ ((w x : List ℕ) × Spaces t w × Word empty_word w x × RestLayer n m.rings x v)
Rest n (Empty k) m t v = (x : List ℕ) × Word (drop k empty_word) t x × RestLayer n m.rings x v
Rest n Ended m t v = RestLayer n m.rings t v
Rest n BeforeBody m t v = (u w : List ℕ) × (rs : List Ring) × Spaces t u × IsBody n u rs w × RestBodies n (m.rings ++ rs) w v
Rest n BeforeRing m t v = (u w : List ℕ) × (r : Ring) × Spaces t u × IsRing n u r w × RestRings n m.multi (m.rings ++ r ∷ []) w v
Rest n BeforePoint m t v = (u w : List ℕ) × (x : Number) × Spaces t u × IsNumber n u x w × RestX n m x w v
Rest n MinusX m t v = (u : List ℕ) × (x : Number) × AllOfDigits m t x u × RestX n m x u v
Rest n DigitsX m t v = (u : List ℕ) × (x : Number) × RestDigits m t x u × RestX n m x u v
Rest n BeforeY m t v = (u : List ℕ) × Spaces t u × RestGap n m m.x u v
Rest n MinusY m t v = (u : List ℕ) × (y : Number) × AllOfDigits m t y u × RestY n m y u v
Rest n DigitsY m t v = (u : List ℕ) × (y : Number) × RestDigits m t y u × RestY n m y u v
Rest n AfterPoint m t v = RestPoints n m m.points t v
Rest n AfterRing m t v = RestRings n m.multi m.rings t v
Rest n AfterBody m t v = RestBodies n m.rings t v
