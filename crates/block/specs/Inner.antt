pub mod UnusedByte
