use Rattle.std.proofs.Common.{◌≡◌, length, take, arith, rules}
use Rattle.std.proofs.lemmas.List.{append_assoc, length-take-le}
use Rattle.words.proofs.Room.{cut_then}
use Rattle.dump.specs.Text.{route_text}
use Rattle.dump.specs.Dump.{station_lines}
use Rattle.dump.proofs.Laws.{route_taken}
use Rattle.dump.proofs.put_stations.Goals as goal

pub returns : goal.returns
unfolding station_lines
returns c =
    let f = c.args.frame in
    let long = length-take-le f.route_count f.route (search rules) in
    let route : route_text (take f.route_count f.route) (length (take f.route_count f.route)) ≡ route_text f.route f.route_count =
    rw long (route_taken f.route f.route_count f.route_count (omega arith)) in
    rw (c.put-3.ensures, c.put-2.ensures, c.put.ensures, c.put_route.ensures, c.put_address-2.ensures, c.put_address.ensures, c.mark.ensures, route) (simp (cut_then, append_assoc))
