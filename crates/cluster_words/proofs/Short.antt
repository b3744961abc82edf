-- an address of this machine is short
use Rattle.std.proofs.Common.{ℕ, ◌≤◌, ◌<◌, ◌^◌, length, arith}
use Rattle.std.proofs.lemmas.Fmt.{length-decimal-le}
use Rattle.std.specs.Fmt.{decimal}
use Rattle.cluster_words.specs.Children.{local}

pub local_short : (port : ℕ) → port < 2 ^ 16 → length (local port) ≤ 64
local_short port few =
    let wide : port < 10 ^ 5 = omega arith in
    let fits : port < 2 ^ 64 = omega arith in
    let some : 0 < 5 = omega arith in
    let digits : length (decimal port) ≤ 5 = length-decimal-le 5 port some wide fits in
    omega arith
