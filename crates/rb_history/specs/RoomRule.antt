-- The room rule: when a ring has room for a record. `has_room` of the rings tests it.
use Rattle.std.specs.Prelude.{ℕ, ◌+◌, ◌-◌, ◌≤◌, ◌^◌, List}
use Rattle.rb_history.specs.declared.entries.Entry.{Entry}
use Rattle.rb_history.specs.Span.{span}
use Rattle.rb_history.specs.History.{producer_of, consumer_of}

-- the parameters with which a ring is created: its size in bytes, its first position, and its number of workers
pub record Setup : Type 0 where
  pub size : ℕ
  pub start : ℕ
  pub workers : ℕ

-- There is room for a record of n bytes, which advances the producer position by `span n`: eight bytes for its header,
-- and its payload rounded up to a multiple of eight (ringbuf.rst: a reservation fails if there is not enough space
-- left). There are two bounds.
--
-- Space: the ring never becomes completely full. The producer position stays at most size - 1 ahead of the consumer
-- position, as in the kernel's ringbuf.c (new_prod_pos - cons_pos > rb->mask fails), so no record overwrites one that
-- was not taken. Newer kernels also fail if new_prod_pos - pend_pos > rb->mask, where pend_pos is the position of the
-- oldest busy record. A consumer stops at that record, so cons_pos <= pend_pos, and a record that passes the first test
-- also passes the second.
--
-- Limit: positions only grow and are never reduced modulo the size. None exceeds 2^62, so no sum of them overflows 64
-- bits (own).
--
-- For example, in a ring of 4,096 bytes that starts at 0 and from which nothing was taken, 255 records of 8 bytes end
-- at 255 * 16 = 4,080. Another one of 8 bytes would end at 4,096 > 0 + 4,095: there is no room. A record of no bytes
-- ends at 4,088: there is room.
pub record HasRoomFor (r : Setup) (h : List Entry) (n : ℕ) : Type 0 where
  pub space : producer_of r.start h + span n ≤ consumer_of r.start h + (r.size - 1)
  pub limit : producer_of r.start h + span n ≤ 2 ^ 62
