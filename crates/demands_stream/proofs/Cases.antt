-- The settled cases, by computation.
use mathlib.Core.Path.{◌≡◌, refl}
use mathlib.Core.List.{map}
use Rattle.kiss_octet.specs.Step.{counted_of, drop_of, put_of, typed_of, stray_of, unescaped, outside_of, opened_of, data_of, move_of, stored_by, step_of, gives}
use Rattle.demands_stream.specs.Run.{run_of}
use Rattle.demands_stream.specs.Cases.{outcome, stream_cases}

pub stream-cases : map (λ c. outcome c.0) stream_cases ≡ map (λ c. c.1) stream_cases
unfolding counted_of drop_of put_of typed_of stray_of unescaped outside_of opened_of data_of move_of stored_by step_of gives run_of
stream-cases = refl
