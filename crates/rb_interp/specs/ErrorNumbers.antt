-- Linux error numbers (errno(3)), which a helper returns negated (bpf-helpers(7): a negative error).
use Rattle.std.specs.Prelude.{ℤ, pos}

-- try again
abbrev pub EAGAIN : ℤ
EAGAIN = pos 11

-- invalid argument
abbrev pub EINVAL : ℤ
EINVAL = pos 22
