-- Writing a group into lent octets from a place on: document 01's numbers 22 and 24 in their order, and the octets.
use Rattle.std.specs.Prelude.{ℕ, ◌+◌, Bool, Result, Ok, Err, cond, List, [], leb, length, take, drop}
use Rattle.address.specs.Address.{encodable}
use Rattle.group.specs.Group.{address_of, group_of}
use Rattle.address.specs.declared.Address.{Address}
use Rattle.placing.specs.declared.PutError.{PutError}
use Rattle.placing.specs.declared.PutError.TheVariants.{NotEncodable, NoRoom}

-- document 01's numbers for writing one address, and for too little room
abbrev pub put_number : PutError → ℕ
put_number NotEncodable = 22
put_number NoRoom = 24

-- the answer where so many octets are lent: 22, then 24 where there are not seven from `at` on
unfoldable pub put_answer : Address → ℕ → ℕ → Result (Unit {0}) PutError
put_answer a at room = cond (encodable a) (cond (leb (at + 7) room) (Ok tt) (Err NoRoom)) (Err NotEncodable)

-- what is written there: the group, and nothing of a refused address
unfoldable pub put_octets : Address → Bool → Bool → List ℕ
put_octets a mark end = cond (encodable a) (group_of a mark end) []

-- the group that stands from `from` on, read and written again with this mark and end bit; nothing where there are not seven octets
unfoldable pub respelled : List ℕ → ℕ → Bool → Bool → List ℕ
respelled s from mark end = cond (leb (from + 7) (length s)) (group_of (address_of (take 7 (drop from s))) mark end) []
