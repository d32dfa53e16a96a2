pub mod ThreeEdges
