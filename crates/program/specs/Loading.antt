-- What is loaded of files (own).
use Rattle.std.specs.Prelude.{◌≡◌, ◌⊎◌, ◌+◌, ℕ, zero, suc, List, [], ◌∷◌, ◌++◌, Option, Result, Ok, Err, IfSome, take}
use Rattle.clap.specs.Words.{Text}
use Rattle.program.specs.declared.files.LoadFault.{LoadFault}
use Rattle.program.specs.declared.files.LoadFault.TheVariants.{Memory}

-- how files are loaded: the files before, a name, what is answered, and the files after
abbrev pub Loads : Type 0 → Type 1
Loads F = F → Text → Result (List ℕ) LoadFault → F → Type 0

-- the bytes are those of the file that a folder opens by this name, where it tells its bytes, and the limit of a text is this:
-- all of them, or where there are more than one past the limit, the first ones up to there
abbrev pub IsReadOf : {F R : Type 0} → (F → Text → R → Type 0) → (R → Option (List ℕ)) → F → Text → ℕ → List ℕ → Type 0
IsReadOf {F} {R} opens remaining folder name longest bytes =
    (file : R) × opens folder name file × IfSome (remaining file) (λ all. bytes ≡ take (longest + 1) all)

-- the files of these names are loaded, each once and in their order, and these are their texts
abbrev pub AreLoadedInTurn : {F : Type 0} → Loads F → F → List Text → List (List ℕ) → F → Type 0
AreLoadedInTurn loads files [] [] files' = files' ≡ files
AreLoadedInTurn {F} loads files (name ∷ names) (text ∷ texts) files' = (between : F) × loads files name (Ok text) between × AreLoadedInTurn loads between names texts files'
AreLoadedInTurn loads files names texts files' = ⊥

-- the files of these names are loaded so up to the one of this number, which can't be loaded: none behind it is tried
abbrev pub IsFirstUnread : {F : Type 0} → Loads F → F → List Text → ℕ → LoadFault → F → Type 0
IsFirstUnread loads files [] number fault files' = ⊥
IsFirstUnread loads files (name ∷ names) zero fault files' = loads files name (Err fault) files'
IsFirstUnread {F} loads files (name ∷ names) (suc number) fault files' = (text : List ℕ) × (between : F) × loads files name (Ok text) between × IsFirstUnread loads between names number fault files'

-- the first of the files of these names are loaded so, as many as memory holds
abbrev pub AreSomeLoaded : {F : Type 0} → Loads F → F → List Text → F → Type 0
AreSomeLoaded loads files names files' = (count : ℕ) × (texts : List (List ℕ)) × AreLoadedInTurn loads files (take count names) texts files'

-- one more file is loaded, and its text stands behind the others
abbrev pub IsLoadedNext : {F : Type 0} → Loads F → F → Text → List (List ℕ) → List (List ℕ) → F → Type 0
IsLoadedNext loads files name texts texts' files' = (text : List ℕ) × loads files name (Ok text) files' × (texts' ≡ texts ++ text ∷ [])

-- one more file can't be loaded; or memory doesn't hold its text
abbrev pub IsNotLoadedNext : {F : Type 0} → Loads F → F → Text → LoadFault → F → Type 0
IsNotLoadedNext loads files name fault files' = loads files name (Err fault) files' ⊎ ((fault ≡ Memory) × (text : List ℕ) × loads files name (Ok text) files')

-- the file of this number can't be loaded; or memory doesn't hold the texts
abbrev pub AreNotAllLoaded : {F : Type 0} → Loads F → F → List Text → ℕ → LoadFault → F → Type 0
AreNotAllLoaded loads files names number fault files' = IsFirstUnread loads files names number fault files' ⊎ ((fault ≡ Memory) × AreSomeLoaded loads files names files')
