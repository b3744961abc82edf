-- the datagrams that packed messages become
use Rattle.std.specs.Prelude.{List, flat_map}
use Rattle.node_links.specs.declared.link.Datagram.{Datagram}
use Rattle.xt_parts.specs.Part.{parts_of}
use Rattle.node_runs.specs.Posting.{sent_to}
use Rattle.node_mail.specs.declared.packed.Post.{Post}

abbrev pub datagrams_of : Post → List Datagram
datagrams_of post = sent_to post.address (parts_of post.id post.frame)

-- those of messages that are sent one after the other
abbrev pub datagrams_of_all : List Post → List Datagram
datagrams_of_all posts = flat_map datagrams_of posts
