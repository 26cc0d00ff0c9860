-- The lines that are printed about a cost (own).
use Rattle.std.specs.Prelude.{ℕ, zero, suc, ◌+◌, ◌*◌, List, [], ◌++◌, codes, Option, Some, None, length, slice_index_or}
use Rattle.std.specs.Fmt.{decimal}
use Rattle.rb_json.specs.declared.form.LineForm.{LineForm}
use Rattle.rb_json.specs.declared.form.LineForm.TheVariants.{Words, Json}
use Rattle.rb_cost.specs.declared.cost.Cost.{Cost}
use Rattle.rb_cost.specs.declared.cost.RingCost.{RingCost}
use Rattle.rb_cost.specs.declared.ring_size.JobsAtOnce.{JobsAtOnce}
use Rattle.rb_cost.specs.Cost.{no_ring_cost}
use Rattle.rb_cost.specs.RingSize.{least_ring}

-- the program was accepted, and the cost of its paths
abbrev pub front_text : LineForm → Cost → List ℕ
front_text Words cost = codes "accepted\nsteps " ++ decimal cost.steps ++ codes " calls " ++ decimal cost.calls ++ codes "\n"
front_text Json cost = codes "{\"accepted\":true,\"steps\":" ++ decimal cost.steps ++ codes ",\"calls\":" ++ decimal cost.calls ++ codes "}\n"

-- what the paths request from a ring and hold there
abbrev pub ring_text : LineForm → ℕ → RingCost → List ℕ
ring_text Words ring cost =
    codes "ring " ++ decimal ring ++ codes " records " ++ decimal cost.records ++ codes " bytes " ++ decimal cost.bytes ++ codes " held " ++ decimal cost.held_bytes ++ codes "\n"
ring_text Json ring cost =
    codes "{\"ring\":" ++ decimal ring ++ codes ",\"records\":" ++ decimal cost.records ++ codes ",\"bytes\":" ++ decimal cost.bytes ++ codes ",\"held\":" ++ decimal cost.held_bytes ++ codes "}\n"

-- the size of the ring, or that none is large enough
abbrev pub size_text : LineForm → ℕ → Option ℕ → List ℕ
size_text Words ring (Some size) = codes "ring " ++ decimal ring ++ codes " size " ++ decimal size ++ codes "\n"
size_text Words ring None = codes "ring " ++ decimal ring ++ codes " size none\n"
size_text Json ring (Some size) = codes "{\"ring\":" ++ decimal ring ++ codes ",\"size\":" ++ decimal size ++ codes "}\n"
size_text Json ring None = codes "{\"ring\":" ++ decimal ring ++ codes ",\"size\":null}\n"

-- the smallest ring larger than the number of bytes that the jobs request together that may have records in it at once
abbrev pub size_for : JobsAtOnce → RingCost → Option ℕ
size_for jobs cost = least_ring ((jobs.behind + jobs.workers) * cost.bytes)

-- its line, if it is requested
abbrev pub chosen_text : LineForm → Option JobsAtOnce → ℕ → RingCost → List ℕ
chosen_text form None ring cost = []
chosen_text form (Some jobs) ring cost = size_text form ring (size_for jobs cost)

-- the lines of the rings below a number
abbrev pub rings_text : LineForm → Option JobsAtOnce → List RingCost → ℕ → List ℕ
rings_text form jobs costs zero = []
rings_text form jobs costs (suc ring) =
    rings_text form jobs costs ring ++ ring_text form ring (slice_index_or costs ring no_ring_cost) ++ chosen_text form jobs ring (slice_index_or costs ring no_ring_cost)

-- the lines of a cost
abbrev pub cost_text : LineForm → Option JobsAtOnce → Cost → List ℕ
cost_text form jobs cost = front_text form cost ++ rings_text form jobs cost.rings.items (length cost.rings.items)
