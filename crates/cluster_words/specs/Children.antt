-- the words with which a cluster starts its nodes
use Rattle.std.specs.Prelude.{ℕ, ◌+◌, Option, Some, None, List, [], ◌∷◌, ◌++◌, codes}
use Rattle.std.specs.Fmt.{decimal}
use Rattle.hex.specs.Hex.{encode_lower}
use Rattle.command_words.specs.declared.job.Given.{Given}
use Rattle.command_words.specs.declared.job.ClusterJob.{ClusterJob}
use Rattle.cluster_words.specs.declared.children.ClusterNode.{ClusterNode}
use Rattle.cluster_words.specs.declared.children.ClusterNode.TheVariants as node

abbrev pub number_of : ClusterNode → ℕ
number_of node.Dir = 900
number_of node.Mrc = 901
number_of (node.Osd number) = number

-- the DIR has the cluster's port, the MRC the next one, and the OSDs those after it
abbrev pub port_of : ℕ → ClusterNode → ℕ
port_of first node.Dir = first
port_of first node.Mrc = first + 1
port_of first (node.Osd number) = first + 1 + number

-- where a port of this machine is reached
abbrev pub local : ℕ → List ℕ
local port = codes "127.0.0.1:" ++ decimal port

abbrev pub option_words : List ℕ → List ℕ → List (List ℕ)
option_words name value = name ∷ value ∷ []

abbrev pub number_words : List ℕ → Option ℕ → List (List ℕ)
number_words name None = []
number_words name (Some number) = option_words name (decimal number)

-- the command, and who an OSD is
abbrev pub role_words : ClusterNode → List (List ℕ)
role_words node.Dir = codes "dir" ∷ []
role_words node.Mrc = codes "mrc" ∷ []
role_words (node.Osd number) = codes "osd" ∷ option_words (codes "--id") (decimal number)

-- each but the DIR gets the DIR's address
abbrev pub directory_words : ℕ → ClusterNode → List (List ℕ)
directory_words first node.Dir = []
directory_words first node.Mrc = option_words (codes "--dir") (local first)
directory_words first (node.Osd number) = option_words (codes "--dir") (local first)

-- the options of nodes that the cluster was given
abbrev pub given_words : Given → List (List ℕ)
given_words given =
    number_words (codes "--lease") given.lease ++ number_words (codes "--drift") given.drift
    ++ number_words (codes "--turns") given.turns ++ number_words (codes "--limit") given.limit

-- the words of a node: its store has the cluster's prefix and its number
unfoldable pub child_words : ClusterJob → ClusterNode → List (List ℕ)
child_words job n =
    role_words n
    ++ option_words (codes "--listen") (local (port_of job.port n))
    ++ directory_words job.port n
    ++ option_words (codes "--store") (job.store ++ decimal (number_of n))
    ++ option_words (codes "--key") (encode_lower job.key)
    ++ given_words job.given
