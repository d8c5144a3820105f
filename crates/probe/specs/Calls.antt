-- A call that is lent too little, one that refuses, and any other.
use Rattle.std.specs.Prelude.{ℕ, Bool, Result, Ok, Err, cond, List, [], ◌∷◌, eqb, ltb, length}
use Rattle.octets.specs.Splice.{splice}
use Rattle.content.specs.declared.FrameContent.{FrameContent}
use Rattle.parse.specs.declared.ContentError.{ContentError}
use Rattle.frame.specs.declared.Ax25Frame.{Ax25Frame}
use Rattle.hops.specs.Hops.{hop_set, hops_used, due_place}
use Rattle.flat.specs.Laid.{content_flat}

-- fewer than n are lent
abbrev pub lacks : List ℕ → ℕ → Bool
lacks l n = ltb (length l) n

-- what a call answers: 24 where it is lent too little
abbrev pub answers : Bool → ℕ → ℕ
answers short n = cond short 24 n

-- what it leaves of a list that is lent: nothing is touched where it is lent too little, else a part stands at the start
abbrev pub leaves : Bool → List ℕ → List ℕ → List ℕ
leaves short l part = cond short l (splice l 0 part)

-- what it leaves of octets that are lent, where it answers n unless it is lent too little: no refusal touches them
abbrev pub leaves_by : Bool → ℕ → List ℕ → List ℕ → List ℕ
leaves_by short n l part = cond short l (cond (eqb n 0) (splice l 0 part) l)

-- content that was read, flat; a refusal has none
abbrev pub read_flat : Result FrameContent ContentError → List ℕ
read_flat (Ok k) = content_flat k
read_flat (Err e) = []

-- the hops of a frame: hop set, hops used, due place
abbrev pub hops_of : Ax25Frame → List ℕ
hops_of f = hop_set f ∷ hops_used f ∷ due_place f ∷ []
