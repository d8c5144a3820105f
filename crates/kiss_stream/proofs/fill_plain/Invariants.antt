-- What was met so far is stored, and the call comes to the same as from here.
use Rattle.kiss_stream.proofs.Laws.{Filled}
use Rattle.kiss_stream.proofs.fill_plain.Given as goal

abbrev pub invariant-loop-octet : goal.invariant-loop-octet
invariant-loop-octet l = Filled l.initial.octets l.held l.rest l.octets l.end l.octet-index
